-- Levels and ways of tag trees.
use Rattle.std.proofs.Common.{◌≡◌, ℕ, zero, suc, ◌+◌, ◌-◌, ◌*◌, ◌/◌, ◌%◌, ◌^◌, ◌<◌, ◌≤◌, Bool, true, false, List, [], ◌∷◌, ◌++◌, length, get_or, refl, sym, ap, ◌∙◌, subst, cond, arith, append_assoc}
use Rattle.std.proofs.lemmas.List.{length_push}
use Rattle.std.proofs.lemmas.Nat.{div_below, mod_below, mul-le, mul-add-lt, div-mul-add, mod-mul-add, div-add-mod'}
use Rattle.std.proofs.Math.Nat.{two-pow-succ, div-one, div-div-eq-div-mul}
use Rattle.std.proofs.lemmas.Bool.Decides.{nat_tests}
use Rattle.jx_tagtree.specs.declared.shape.Level.{Level}
use Rattle.jx_tagtree.specs.Shape.{IsShape, base, is_root, over, parent_at, root_from, root, way_from, way, levels_from, levels_of, node_in, nodes_over, FitsWay, IsLevel, InLevel}
use Rattle.jx_base.specs.Limits.{most_blocks}

pos_left : (a b : ℕ) → 1 ≤ a * b → 1 ≤ a
pos_left zero b h = let e : 0 * b ≡ 0 = omega arith in omega arith
pos_left (suc a) b h = omega arith

pos_right : (a b : ℕ) → 1 ≤ a * b → 1 ≤ b
pos_right a zero h = let e : a * 0 ≡ 0 = omega arith in omega arith
pos_right a (suc b) h = omega arith

pub le_product : (a b : ℕ) → 1 ≤ b → a ≤ a * b
le_product a zero h = absurd (omega arith)
le_product a (suc b) h = let e : a * suc b ≡ a + a * b = omega arith in omega arith

le_product' : (a b : ℕ) → 1 ≤ a → b ≤ a * b
le_product' zero b h = absurd (omega arith)
le_product' (suc a) b h = let e : suc a * b ≡ b + a * b = omega arith in omega arith

pub IsLevel-base : (wide high : ℕ) → IsShape wide high → IsLevel 22 (base wide high)
IsLevel-base wide high s =
    let some : 1 ≤ wide * high = s.some in
    let few : wide * high ≤ most_blocks = s.few in
    let w : 1 ≤ wide = pos_left wide high some in
    let h : 1 ≤ high = pos_right wide high some in
    let lw : wide ≤ wide * high = le_product wide high h in
    let lh : high ≤ wide * high = le_product' wide high w in
    record { some_wide = w; some_high = h; wide = omega arith; high = omega arith; few = few; within = omega arith; first = omega arith }

pub InLevel-base : (wide high leaf : ℕ) → leaf < wide * high → InLevel (base wide high) leaf
InLevel-base wide high leaf h = record { first = omega arith; last = omega arith }

-- a half, rounded up
half_le : (w n : ℕ) → w ≤ 2 ^ suc n → (w + 1) / 2 ≤ 2 ^ n
half_le w n h = let e : 2 ^ suc n ≡ 2 ^ n + 2 ^ n = two-pow-succ n in omega arith

half_less : (w : ℕ) → 1 ≤ w → (w + 1) / 2 ≤ w
half_less w h = omega arith

half_some : (w : ℕ) → 1 ≤ w → 1 ≤ (w + 1) / 2
half_some w h = omega arith

pub IsLevel-over : (n : ℕ) (l : Level) → IsLevel (suc n) l → IsLevel n (over l)
IsLevel-over n l s =
    let within : suc n ≤ 22 = s.within in
    let first : l.first ≤ (22 - suc n) * most_blocks = s.first in
    let few : l.wide * l.high ≤ most_blocks = s.few in
    let less : (l.wide + 1) / 2 * ((l.high + 1) / 2) ≤ l.wide * l.high = mul-le ((l.wide + 1) / 2) ((l.high + 1) / 2) l.wide l.high (half_less l.wide s.some_wide) (half_less l.high s.some_high) in
    let more : 22 - n ≡ suc (22 - suc n) = omega arith in
    let again : (22 - n) * most_blocks ≡ most_blocks + (22 - suc n) * most_blocks = rw more (omega arith) in
    record {
      some_wide = half_some l.wide s.some_wide;
      some_high = half_some l.high s.some_high;
      wide = half_le l.wide n s.wide;
      high = half_le l.high n s.high;
      few = omega arith;
      within = omega arith;
      first = omega arith;
    }

-- a level with none above it is the root's
pub root_at_zero : (l : Level) → IsLevel 0 l → is_root l ≡ true
root_at_zero l s = let w : l.wide ≤ 1 = s.wide in let h : l.high ≤ 1 = s.high in grind (arith, nat_tests)

-- the root's level has one node
pub one_node : (l : Level) (node : ℕ) → is_root l ≡ true → InLevel l node → node ≡ l.first
one_node l node top n =
    let first : l.first ≤ node = n.first in
    let last : node < l.first + l.wide * l.high = n.last in
    let w : l.wide ≤ 1 = grind (arith, nat_tests) in
    let h : l.high ≤ 1 = grind (arith, nat_tests) in
    let p : l.wide * l.high ≤ 1 * 1 = mul-le l.wide l.high 1 1 w h in
    omega arith

pub InLevel-parent : (n : ℕ) (l : Level) (node : ℕ) → IsLevel n l → InLevel l node → InLevel (over l) (parent_at l node)
InLevel-parent n l node s i =
    let first : l.first ≤ node = i.first in
    let last : node < l.first + l.wide * l.high = i.last in
    let w : 0 < l.wide = s.some_wide in
    let place : node - l.first < l.high * l.wide = let e : l.wide * l.high ≡ l.high * l.wide = omega arith in omega arith in
    let row : (node - l.first) / l.wide < l.high = div_below (node - l.first) l.wide l.high w place in
    let column : (node - l.first) % l.wide < l.wide = mod_below (node - l.first) l.wide w in
    let half_row : (node - l.first) / l.wide / 2 < (l.high + 1) / 2 = omega arith in
    let half_column : (node - l.first) % l.wide / 2 < (l.wide + 1) / 2 = omega arith in
    let lt : (node - l.first) / l.wide / 2 * ((l.wide + 1) / 2) + (node - l.first) % l.wide / 2 < (l.wide + 1) / 2 * ((l.high + 1) / 2) =
    mul-add-lt ((node - l.first) / l.wide / 2) ((l.wide + 1) / 2) ((node - l.first) % l.wide / 2) ((l.high + 1) / 2) half_row half_column in
    record { first = omega arith; last = omega arith }

-- ---- the loops over levels
pub not_top : (l : Level) (n : ℕ) → IsLevel n l → is_root l ≡ false → (m : ℕ) × (n ≡ suc m)
not_top l zero s top = absurd (let t : is_root l ≡ true = root_at_zero l s in cc)
not_top l (suc m) s top = (m, refl)

pub level_first : (n : ℕ) (l : Level) → IsLevel n l → l.first ≤ 22 * most_blocks
level_first n l s =
    let first : l.first ≤ (22 - n) * most_blocks = s.first in
    let small : 22 - n ≤ 22 = omega arith in
    let bound : (22 - n) * most_blocks ≤ 22 * most_blocks = mul-le (22 - n) (most_blocks) 22 (most_blocks) small (omega arith) in
    omega arith

pub way_begin : (wide high leaf : ℕ) → way_from 22 (base wide high) leaf ≡ way wide high leaf
unfolding way
way_begin wide high leaf = refl

pub way_end : (n : ℕ) (l : Level) (node : ℕ) → is_root l ≡ true → way_from n l node ≡ node ∷ []
way_end zero l node top = refl
way_end (suc n) l node top = ap (λ (b : Bool). cond b (node ∷ []) (node ∷ way_from n (over l) (parent_at l node))) top

pub way_next : (n : ℕ) (l : Level) (node : ℕ) → is_root l ≡ false → way_from (suc n) l node ≡ node ∷ way_from n (over l) (parent_at l node)
way_next n l node top = ap (λ (b : Bool). cond b (node ∷ []) (node ∷ way_from n (over l) (parent_at l node))) top

-- what stays true of the levels so far and the next one
pub record Stacks (whole levels : List Level) (level : Level) : Type 0 where
  pub some : length levels ≤ 22
  pub is_level : IsLevel (22 - length levels) level
  pub are : levels ++ levels_from (22 - length levels) level ≡ whole

pub stack_begin : (wide high : ℕ) → IsShape wide high → Stacks (levels_of wide high) [] (base wide high)
unfolding levels_of
stack_begin wide high s = record { some = omega arith; is_level = IsLevel-base wide high s; are = refl }

levels_next : (n : ℕ) (l : Level) → is_root l ≡ false → levels_from (suc n) l ≡ l ∷ levels_from n (over l)
levels_next n l top = ap (λ (b : Bool). cond b (l ∷ []) (l ∷ levels_from n (over l))) top

levels_end : (n : ℕ) (l : Level) → is_root l ≡ true → levels_from n l ≡ l ∷ []
levels_end zero l top = refl
levels_end (suc n) l top = ap (λ (b : Bool). cond b (l ∷ []) (l ∷ levels_from n (over l))) top

pub stack_next : (whole levels : List Level) (l : Level) → Stacks whole levels l → is_root l ≡ false →
    (length levels < 22) × Stacks whole (levels ++ l ∷ []) (over l)
stack_next whole levels l c top =
    let m = not_top l (22 - length levels) c.is_level top in
    let left : 22 - length levels ≡ suc m.0 = m.1 in
    let lt : length levels < 22 = omega arith in
    let long : length (levels ++ l ∷ []) ≡ length levels + 1 = length_push levels l in
    let left' : m.0 ≡ 22 - length (levels ++ l ∷ []) = omega arith in
    let here : IsLevel (suc m.0) l = subst (λ (k : ℕ). IsLevel k l) left c.is_level in (
      lt,
      record {
        some = omega arith;
        is_level = subst (λ (k : ℕ). IsLevel k (over l)) left' (IsLevel-over m.0 l here);
        are = ap (λ (k : ℕ). levels ++ l ∷ [] ++ levels_from k (over l)) (sym left')
            ∙ append_assoc levels (l ∷ []) (levels_from m.0 (over l))
            ∙ ap (λ (w : List Level). levels ++ w) (sym (levels_next m.0 l top))
            ∙ ap (λ (k : ℕ). levels ++ levels_from k l) (sym left) ∙ c.are;
      },
    )

pub stack_end : (whole levels : List Level) (l : Level) → Stacks whole levels l → is_root l ≡ true → levels ++ l ∷ [] ≡ whole
stack_end whole levels l c top = ap (λ (w : List Level). levels ++ w) (sym (levels_end (22 - length levels) l top)) ∙ c.are

-- ---- the nodes of a way stand over the leaf's place
parent_in : (l : Level) (down across : ℕ) → across < l.wide → parent_at l (node_in l down across) ≡ node_in (over l) (down / 2) (across / 2)
parent_in l down across lt =
    let place : node_in l down across - l.first ≡ down * l.wide + across = omega arith in
    let row : (node_in l down across - l.first) / l.wide ≡ down = ap (λ (p : ℕ). p / l.wide) place ∙ div-mul-add down l.wide across lt in
    let column : (node_in l down across - l.first) % l.wide ≡ across = ap (λ (p : ℕ). p % l.wide) place ∙ mod-mul-add down l.wide across lt in
    ap (λ (r : ℕ). (over l).first + r / 2 * (over l).wide + (node_in l down across - l.first) % l.wide / 2) row
    ∙ ap (λ (c : ℕ). (over l).first + down / 2 * (over l).wide + c / 2) column

way_nodes : (n : ℕ) (l : Level) (down across : ℕ) → across < l.wide → way_from n l (node_in l down across) ≡ nodes_over (levels_from n l) down across
way_nodes zero l down across lt = refl
way_nodes (suc n) l down across lt = by (is_root l)
    (ap (way_from n (over l)) (parent_in l down across lt) ∙ way_nodes n (over l) (down / 2) (across / 2) (omega arith))
  where
    by : (b : Bool) → way_from n (over l) (parent_at l (node_in l down across)) ≡ nodes_over (levels_from n (over l)) (down / 2) (across / 2) →
        cond b (node_in l down across ∷ []) (node_in l down across ∷ way_from n (over l) (parent_at l (node_in l down across))) ≡ nodes_over (cond b (l ∷ []) (l ∷ levels_from n (over l))) down across
    by true again = refl
    by false again = ap (λ (w : List ℕ). node_in l down across ∷ w) again

levels_few : (n : ℕ) (l : Level) → length (levels_from n l) ≤ n + 1
levels_few zero l = omega arith
levels_few (suc n) l = by (is_root l) (levels_few n (over l))
  where
    by : (b : Bool) → length (levels_from n (over l)) ≤ n + 1 → length (cond b (l ∷ []) (l ∷ levels_from n (over l))) ≤ suc n + 1
    by true h = omega arith
    by false h = omega arith

-- a level, where there is none
abbrev pub no_level : Level
no_level = record { first = 0; wide = 0; high = 0 }

pub nodes_long : (levels : List Level) (down across : ℕ) → length (nodes_over levels down across) ≡ length levels
nodes_long [] down across = refl
nodes_long (l ∷ levels) down across = ap suc (nodes_long levels (down / 2) (across / 2))

-- each of them by itself
pub nodes_at : (levels : List Level) (k down across : ℕ) → k < length levels → get_or (nodes_over levels down across) k 0 ≡ node_in (get_or levels k no_level) (down / 2 ^ k) (across / 2 ^ k)
nodes_at [] k down across lt = absurd (omega arith)
nodes_at (l ∷ levels) zero down across lt = ap (λ (d : ℕ). l.first + d * l.wide + across) (sym (div-one down)) ∙ ap (λ (c : ℕ). l.first + down / 1 * l.wide + c) (sym (div-one across))
nodes_at (l ∷ levels) (suc k) down across lt =
    nodes_at levels k (down / 2) (across / 2) (omega arith)
    ∙ ap (λ (d : ℕ). node_in (get_or levels k no_level) d (across / 2 / 2 ^ k)) (halved down)
    ∙ ap (λ (c : ℕ). node_in (get_or levels k no_level) (down / 2 ^ suc k) c) (halved across)
  where
    halved : (n : ℕ) → n / 2 / 2 ^ k ≡ n / 2 ^ suc k
    halved n = div-div-eq-div-mul n 2 (2 ^ k) ∙ ap (λ (d : ℕ). n / d) (let e : 2 ^ suc k ≡ 2 ^ k + 2 ^ k = two-pow-succ k in let f : 2 * 2 ^ k ≡ 2 ^ suc k = omega arith in f)

-- where a way is asked for a node
module _ (levels : List Level) (down across : ℕ) (now : List ℕ) (view : nodes_over levels down across ≡ now) (k : ℕ) (lt : k < length now) where
  pub at_inside : k < length levels
  at_inside =
      let e : length (nodes_over levels down across) ≡ length now = ap (λ (l : List ℕ). length l) view in
      let f : length (nodes_over levels down across) ≡ length levels = nodes_long levels down across in
      omega arith

  pub at_few : FitsWay levels down across → k < 32
  at_few f = let few : length levels ≤ 23 = f.few in let i : k < length levels = at_inside in omega arith

  pub at_is : node_in (get_or levels k no_level) (down / 2 ^ k) (across / 2 ^ k) ≡ get_or now k 0
  at_is = sym (nodes_at levels k down across at_inside) ∙ ap (λ (l : List ℕ). get_or l k 0) view

  pub at_fits : FitsWay levels down across → node_in (get_or levels k no_level) (down / 2 ^ k) (across / 2 ^ k) < 2 ^ 32
  at_fits f = subst (λ (n : ℕ). n < 2 ^ 32) (nodes_at levels k down across at_inside) (f.fits k at_inside)

pub way_over : (wide high leaf : ℕ) → IsShape wide high → leaf < wide * high → nodes_over (levels_of wide high) (leaf / wide) (leaf % wide) ≡ way wide high leaf
unfolding levels_of way
way_over wide high leaf s lt =
    let some : 1 ≤ wide * high = s.some in
    let w : 0 < wide = pos_left wide high some in
    let back : leaf / wide * wide + leaf % wide ≡ leaf = div-add-mod' leaf wide in
    let at : node_in (base wide high) (leaf / wide) (leaf % wide) ≡ leaf = omega arith in
    sym (way_nodes 22 (base wide high) (leaf / wide) (leaf % wide) (mod_below leaf wide w)) ∙ ap (way_from 22 (base wide high)) at

pub table_few : (wide high : ℕ) → length (levels_of wide high) ≤ 23
unfolding levels_of
table_few wide high = levels_few 22 (base wide high)

-- what stays true of the levels up to the root, after some of them
pub record Rises (top counter : ℕ) (level : Level) : Type 0 where
  pub is_level : IsLevel (22 - counter) level
  pub same : root_from (22 - counter) level ≡ top

pub rise_begin : (wide high : ℕ) → IsShape wide high → Rises (root wide high) 0 (base wide high)
unfolding root
rise_begin wide high s = record { is_level = IsLevel-base wide high s; same = refl }

pub rise_next : (top counter : ℕ) (l : Level) → Rises top counter l → is_root l ≡ false → Rises top (counter + 1) (over l)
rise_next top counter l r is =
    let m = not_top l (22 - counter) r.is_level is in
    let left : 22 - counter ≡ suc m.0 = m.1 in
    let left' : m.0 ≡ 22 - (counter + 1) = omega arith in
    record {
      is_level = subst (λ (k : ℕ). IsLevel k (over l)) left' (IsLevel-over m.0 l (subst (λ (k : ℕ). IsLevel k l) left r.is_level));
      same = ap (λ (k : ℕ). root_from k (over l)) (sym left') ∙ sym (ap (λ (b : Bool). cond b l.first (root_from m.0 (over l))) is) ∙ ap (λ (k : ℕ). root_from k l) (sym left) ∙ r.same;
    }
