-- The way from a node to the root goes from each node to its parent.
use Rattle.std.proofs.Common.{◌≡◌, ℕ, zero, suc, ◌*◌, ◌/◌, ◌%◌, ◌<◌, ◌≤◌, nat_lt, Bool, true, false, List, [], ◌∷◌, length, get_or, refl, sym, ap, ◌∙◌, subst, cond, arith}
use Rattle.std.proofs.lemmas.Bool.Decides.{nat_tests}
use Rattle.jx_tagtree.specs.declared.shape.Level.{Level}
use Rattle.jx_tagtree.specs.Shape.{IsShape, base, is_root, over, parent_at, root_from, root, parent_from, parent, way_from, way, levels_of, nodes_over, FitsWay, IsLevel, InLevel}
use Rattle.jx_tagtree.proofs.ShapeLemmas.{IsLevel-base, InLevel-base, IsLevel-over, InLevel-parent, root_at_zero, one_node, way_next, way_end, level_first, nodes_long, way_over, table_few}
use Rattle.jx_base.specs.Limits.{most_blocks}

-- a way from a node to the node `top`, where `up` gives the parent
pub data IsWay (up : ℕ → ℕ) (top : ℕ) : ℕ → List ℕ → Type 0 where
  at_top : IsWay up top top (top ∷ [])
  under : {n : ℕ} {over : List ℕ} → n < top → IsWay up top (up n) over → IsWay up top n (n ∷ over)

root_from-ge : (m : ℕ) (l : Level) → l.first ≤ root_from m l
root_from-ge zero l = omega arith
root_from-ge (suc m) l = by (is_root l) (root_from-ge m (over l))
  where
    by : (b : Bool) → (over l).first ≤ root_from m (over l) → l.first ≤ cond b l.first (root_from m (over l))
    by true h = omega arith
    by false h = omega arith

top_way : (up : ℕ → ℕ) (top node : ℕ) → node ≡ top → IsWay up top node (node ∷ [])
top_way up top node e = subst (λ (n : ℕ). IsWay up top n (n ∷ [])) (sym e) at_top

climbs : (up : ℕ → ℕ) (top m : ℕ) (l : Level) (node : ℕ) → IsLevel m l → InLevel l node →
    ((q : ℕ) → l.first ≤ q → up q ≡ parent_from m l q) → top ≡ root_from m l → IsWay up top node (way_from m l node)
climbs up top zero l node s i ups tops = top_way up top node (one_node l node (root_at_zero l s) i ∙ sym tops)
climbs up top (suc m) l node s i ups tops = by (is_root l) refl
    (λ tops' ups'. climbs up top m (over l) (parent_at l node) (IsLevel-over m l s) (InLevel-parent (suc m) l node s i) ups' tops')
  where
    by : (b : Bool) → is_root l ≡ b →
        (top ≡ root_from m (over l) → ((q : ℕ) → (over l).first ≤ q → up q ≡ parent_from m (over l) q) → IsWay up top (parent_at l node) (way_from m (over l) (parent_at l node))) →
        IsWay up top node (way_from (suc m) l node)
    by true e again =
        let same : top ≡ l.first = tops ∙ ap (λ (b : Bool). cond b l.first (root_from m (over l))) e in
        subst (λ (w : List ℕ). IsWay up top node w) (sym (way_end (suc m) l node e)) (top_way up top node (one_node l node e i ∙ sym same))
    by false e again =
        let first : l.first ≤ node = i.first in
        let below : node < (over l).first = i.last in
        let tops' : top ≡ root_from m (over l) = tops ∙ ap (λ (b : Bool). cond b l.first (root_from m (over l))) e in
        let ge : (over l).first ≤ root_from m (over l) = root_from-ge m (over l) in
        let lt : node < top = omega arith in
        let here : nat_lt node (over l).first ≡ true = grind (arith, nat_tests) in
        let parent_is : up node ≡ parent_at l node = ups node first ∙ ap (λ (b : Bool). cond b (parent_at l node) (parent_from m (over l) node)) here in
        let rest : IsWay up top (parent_at l node) (way_from m (over l) (parent_at l node)) =
        again tops' (λ q le. ups q (let a : l.first ≤ q = omega arith in a) ∙ (let no : nat_lt q (over l).first ≡ false = grind (arith, nat_tests) in ap (λ (b : Bool). cond b (parent_at l q) (parent_from m (over l) q)) no)) in
        subst (λ (w : List ℕ). IsWay up top node w) (sym (way_next m l node e)) (under lt (subst (λ (p : ℕ). IsWay up top p (way_from m (over l) (parent_at l node))) (sym parent_is) rest))

pub way_is : (wide high leaf : ℕ) → IsShape wide high → leaf < wide * high → IsWay (parent wide high) (root wide high) leaf (way wide high leaf)
unfolding way root parent
way_is wide high leaf s h = climbs (parent_from 22 (base wide high)) (root_from 22 (base wide high)) 22 (base wide high) leaf (IsLevel-base wide high s) (InLevel-base wide high leaf h) (λ q le. refl) refl

-- ---- the fields of a way
pub way_under : (up : ℕ → ℕ) (top n : ℕ) (ways : List ℕ) → IsWay up top n ways → (k : ℕ) → k < length ways → get_or ways k 0 ≤ top
way_under up top _ _ at_top zero lt = omega arith
way_under up top _ _ at_top (suc k) lt = absurd (omega arith)
way_under up top _ _ (under {n} {over} lt w) zero k_lt = omega arith
way_under up top _ _ (under {n} {over} lt w) (suc k) k_lt = way_under up top (up n) over w k (omega arith)

root_from-le : (m : ℕ) (l : Level) → IsLevel m l → root_from m l ≤ 22 * most_blocks
root_from-le zero l s = level_first 0 l s
root_from-le (suc m) l s = by (is_root l) (level_first (suc m) l s) (root_from-le m (over l) (IsLevel-over m l s))
  where
    by : (b : Bool) → l.first ≤ 22 * most_blocks → root_from m (over l) ≤ 22 * most_blocks → cond b l.first (root_from m (over l)) ≤ 22 * most_blocks
    by true h g = h
    by false h g = g

root-le : (wide high : ℕ) → IsShape wide high → root wide high ≤ 22 * most_blocks
unfolding root
root-le wide high s = root_from-le 22 (base wide high) (IsLevel-base wide high s)

pub fits_way : (wide high leaf : ℕ) (levels : List Level) → IsShape wide high → leaf < wide * high → levels ≡ levels_of wide high → FitsWay levels (leaf / wide) (leaf % wide)
fits_way wide high leaf levels s lt e =
    let few : length (levels_of wide high) ≤ 23 = table_few wide high in
    subst (λ (l : List Level). FitsWay l (leaf / wide) (leaf % wide)) (sym e) (record {
      few = few;
      fits = λ k k_lt. (
          let long : length (nodes_over (levels_of wide high) (leaf / wide) (leaf % wide)) ≡ length (levels_of wide high) = nodes_long (levels_of wide high) (leaf / wide) (leaf % wide) in
          let same : nodes_over (levels_of wide high) (leaf / wide) (leaf % wide) ≡ way wide high leaf = way_over wide high leaf s lt in
          let w : IsWay (parent wide high) (root wide high) leaf (nodes_over (levels_of wide high) (leaf / wide) (leaf % wide)) =
          subst (λ (l : List ℕ). IsWay (parent wide high) (root wide high) leaf l) (sym same) (way_is wide high leaf s lt) in
          let le : get_or (nodes_over (levels_of wide high) (leaf / wide) (leaf % wide)) k 0 ≤ root wide high =
          way_under (parent wide high) (root wide high) leaf (nodes_over (levels_of wide high) (leaf / wide) (leaf % wide)) w k (omega arith) in
          let r : root wide high ≤ 22 * most_blocks = root-le wide high s in
          omega arith);
    })
