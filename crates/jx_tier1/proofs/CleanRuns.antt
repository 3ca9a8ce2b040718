-- A cleanup pass at a column in run mode: what it leaves in a word.
use Rattle.std.proofs.Common.{◌≡◌, ◌≢◌, ◌<◌, ◌≤◌, ◌+◌, ◌*◌, ◌/◌, ◌%◌, ℕ, zero, suc, Bool, true, false, refl, sym, ap, ◌∙◌, arith, subst, inl, inr, length}
use Rattle.std.specs.Int.{bit_at}
use Rattle.std.proofs.lemmas.Bool.{cases_eq, cases_lt}
use Rattle.std.proofs.lemmas.List.{get_or-set_same, get_or-set_other, length-set}
use Rattle.jx_tier1_specs.specs.declared.coef.Coef.{Coef}
use Rattle.jx_tier1_specs.specs.declared.question.Plane.{Plane}
use Rattle.jx_tier1_specs.specs.declared.question.Question.{Question}
use Rattle.jx_tier1_specs.specs.Cells.{Cells, zero_coef, coef_at, with_coef}
use Rattle.jx_tier1_specs.specs.Asking.{Asking, told}
use Rattle.jx_tier1_specs.specs.Pass.{sign_question, sign_of, with_bit, with_sign, changed, is_decided, is_run, zeroed, named_at, run_at}
use Rattle.jx_tier1_specs.proofs.RunBackLemmas.{is_one}
use Rattle.jx_tier1.specs.Sights.{IsSight, IsPlaceIn, EndsIn}
use Rattle.jx_tier1.specs.Walking.{IsNow}
use Rattle.jx_tier1.specs.WordPasses.{Cleans, CleansIn}
use Rattle.jx_tier1.specs.WordScan.{pass_at_bit}
use Rattle.jx_tier1.proofs.CleanLemmas.{is_left, run_bit}
use Rattle.jx_tier1.proofs.CleanSteps.{IsLater, cleans_next, runs_same, runs_raised}
use Rattle.jx_tier1.proofs.DueWords.{IsPlaceOf, place_of, decided_next}
use Rattle.jx_tier1.proofs.MarkLemmas.{IsWholeAt, same_place, index_below}
use Rattle.jx_tier1.proofs.SeekLemmas.{sight_kept}
use Rattle.jx_tier1.proofs.WordAfter.{bit_after}

-- a change of another place
other_coef : (g : Cells) (x y a b : ℕ) (coef : Coef) → x < g.width → a < g.width → (a ≡ x → b ≡ y → ⊥) → coef_at (with_coef g x y coef) a b ≡ coef_at g a b
other_coef g x y a b coef l m n =
    get_or-set_other g.coefs (y * g.width + x) (b * g.width + a) coef zero_coef
    (λ e. let s = same_place g.width a b x y m l e in n s.0 s.1)

here_coef : (g : Cells) (x y : ℕ) (coef : Coef) → IsWholeAt g x y → coef_at (with_coef g x y coef) x y ≡ coef
here_coef g x y coef i = get_or-set_same g.coefs (y * g.width + x) coef zero_coef (index_below g x y i)

-- a column of so many rows, all of them rows of the block
pub record HasRows (g : Cells) (x y n : ℕ) : Type 0 where
  pub column : x < g.width
  pub rows : y + n ≤ g.height
  pub whole : length g.coefs ≡ g.height * g.width

rows_changed : (g : Cells) (x y n c r : ℕ) (coef : Coef) → HasRows g x y n → HasRows (with_coef g c r coef) x y n
rows_changed g x y n c r coef h = record { column = h.column; rows = h.rows; whole = length-set g.coefs (r * g.width + c) coef ∙ h.whole }

first_row : (g : Cells) (x y n : ℕ) → HasRows g x y (suc n) → IsWholeAt g x y
first_row g x y n h = let r = h.rows in record { column = h.column; row = omega arith; whole = h.whole }

rows_below : (g : Cells) (x y n : ℕ) → HasRows g x y (suc n) → HasRows g x (y + 1) n
rows_below g x y n h = let r = h.rows in record { column = h.column; rows = omega arith; whole = h.whole }

-- rows that are decided to be 0
pub zeroed_other : (k : Plane) (n : ℕ) (g : Cells) (x y a b : ℕ) → x < g.width → a < g.width → (a ≡ x → y ≤ b → b < y + n → ⊥)
    → coef_at (zeroed k n g x y) a b ≡ coef_at g a b
zeroed_other k zero g x y a b l m o = refl
zeroed_other k (suc n) g x y a b l m o =
    zeroed_other k n (changed g x y (with_bit k false)) x (y + 1) a b l m (λ e p q. o e (omega arith) (omega arith))
    ∙ other_coef g x y a b (with_bit k false (coef_at g x y)) l m (λ e f. o e (omega arith) (omega arith))

pub zeroed_done : (k : Plane) (n : ℕ) (g : Cells) (x y b : ℕ) → HasRows g x y n → y ≤ b → b < y + n → is_decided k (coef_at (zeroed k n g x y) x b) ≡ true
zeroed_done k zero g x y b h l m = absurd (omega arith)
zeroed_done k (suc n) g x y b h l m =
    let coef : Coef = with_bit k false (coef_at g x y) in
    let v : Cells = changed g x y (with_bit k false) in
    elim (cases_eq b y) [
      | inl e ↦
          (let column = h.column in
          let a : coef_at (zeroed k n v x (y + 1)) x y ≡ coef =
          zeroed_other k n v x (y + 1) x y column column (λ i p q. absurd (omega arith)) ∙ here_coef g x y coef (first_row g x y n h) in
          ap (λ (r : ℕ). is_decided k (coef_at (zeroed k n v x (y + 1)) x r)) e ∙ (ap (λ (c : Coef). is_decided k c) a ∙ decided_next k coef refl))
      | inr e ↦
          zeroed_done k n v x (y + 1) b (rows_below v x y n (rows_changed g x y (suc n) x y coef h)) (omega arith) (omega arith)
    ]

pub zeroed_sight : (k : Plane) (n : ℕ) (g : Cells) (x y a b w v : ℕ) → HasRows g x y n → IsSight k.causal g a b w v → IsSight k.causal (zeroed k n g x y) a b w v
zeroed_sight k zero g x y a b w v h s = s
zeroed_sight k (suc n) g x y a b w v h s =
    let coef : Coef = with_bit k false (coef_at g x y) in
    let m : Cells = changed g x y (with_bit k false) in
    zeroed_sight k n m x (y + 1) a b w v (rows_below m x y n (rows_changed g x y (suc n) x y coef h))
    (sight_kept k.causal g a b w v x y coef s (first_row g x y n h) refl refl)

pub zeroed_width : (k : Plane) (n : ℕ) (g : Cells) (x y : ℕ) → (zeroed k n g x y).width ≡ g.width
zeroed_width k zero g x y = refl
zeroed_width k (suc n) g x y = zeroed_width k n (changed g x y (with_bit k false)) x (y + 1)

pub zeroed_height : (k : Plane) (n : ℕ) (g : Cells) (x y : ℕ) → (zeroed k n g x y).height ≡ g.height
zeroed_height k zero g x y = refl
zeroed_height k (suc n) g x y = zeroed_height k n (changed g x y (with_bit k false)) x (y + 1)

-- the column of a run
pub run_rows : (k : Plane) (g : Cells) (x y p : ℕ) → IsNow k g → IsPlaceOf g x y p → is_run k g (x + p / 6) (y + p % 6) ≡ true → HasRows g (x + p / 6) (y + p % 6) 4
run_rows k g x y p n i e = record { column = i.column; rows = (is_one k g (x + p / 6) (y + p % 6) e).rows; whole = n.at.clean.whole.size }

fewer_rows : (g : Cells) (x y n : ℕ) → HasRows g x y 4 → n < 4 → HasRows g x y n
fewer_rows g x y n h l = let r = h.rows in record { column = h.column; rows = omega arith; whole = h.whole }

-- all four are 0
none_later : (k : Plane) (g : Cells) (x y p : ℕ) → p % 6 ≡ 0 → HasRows g (x + p / 6) (y + p % 6) 4 → IsLater k g (zeroed k 4 g (x + p / 6) (y + p % 6)) x y p (p + 3)
none_later k g x y p r h =
    let c : ℕ = x + p / 6 in
    let e : ℕ = y + p % 6 in
    record {
      width = refl;
      height = refl;
      done = λ i l m t.
          let a : x + i / 6 ≡ c = omega arith in
          ap (λ (n : ℕ). is_decided k (coef_at (zeroed k 4 g c e) n (y + i % 6))) a ∙ zeroed_done k 4 g c e (y + i % 6) h (omega arith) (omega arith);
      same = λ i l t.
          zeroed_other k 4 g c e (x + i / 6) (y + i % 6) h.column (place_of g x y i t).column (λ a b d. absurd (omega arith));
    }

pub run_none_left : {S : Type 0} (ask : S → Question → Bool × S) (k : Plane) (g : Cells) (x y w v d z p rest : ℕ) (s t : S)
    → Cleans k g x y w v d z p → y % 4 ≡ 0 → bit_at d p ≡ 1 → p % 6 ≡ 0 → bit_at z p ≡ 1
    → told ask (run_at k g (x + p / 6) (y + p % 6)) s ≡ (zeroed k 4 g (x + p / 6) (y + p % 6), t)
    → ((i : ℕ) → i ≤ p + 3 → bit_at rest i ≡ 0) → ((i : ℕ) → p + 3 < i → bit_at rest i ≡ bit_at d i)
    → CleansIn k x y (told ask (pass_at_bit 0 k g x y p) s) w v rest z (p + 1) t
run_none_left {S = S} ask k g x y w v d z p rest s t c f one r run e before behind =
    let X : ℕ = x + p / 6 in
    let Y : ℕ = y + p % 6 in
    let q = is_left k g x y w v d z p p c (omega arith) one in
    let b = run_bit k g x y w v d z p c f one r run in
    let h = run_rows k g x y p c.now q.place b.0 in
    let m : Cells = zeroed k 4 g X Y in
    let tree : told ask (pass_at_bit 0 k g x y p) s ≡ (m, t) = ap (λ (u : Asking Cells). told ask u s) b.1 ∙ e in
    let there : (told ask (pass_at_bit 0 k g x y p) s).0 ≡ m = ap (λ (u : Cells × S). u.0) tree in
    let now : IsNow k m = subst (λ (u : Cells). IsNow k u) there (bit_after ask 0 k g x y p s c.now).now in
    record {
      word = subst (λ (u : Cells). Cleans k u x y w v rest z (p + 1)) (sym there)
          (cleans_next k g m x y w v d z w v rest z p (p + 3) c now (zeroed_sight k 4 g X Y x y w v h c.sight) (omega arith) (none_later k g x y p r h) before behind
          (λ i l o u. c.runs i (omega arith) o u ∙ sym (runs_same d w rest w (p + 3) i behind (omega arith) (λ j n. refl))));
      source = sym (ap (λ (u : Cells × S). u.1) tree);
    }

-- one of them is the first 1
named_later : (k : Plane) (g : Cells) (x y p n : ℕ) (coef : Coef) → p % 6 ≡ 0 → n < 4 → HasRows g (x + p / 6) (y + p % 6) 4 → coef.planes ≡ k.number + 1
    → IsLater k g (zeroed k n (with_coef g (x + p / 6) (y + p % 6 + n) coef) (x + p / 6) (y + p % 6)) x y p (p + n)
named_later k g x y p n coef r few h e =
    let c : ℕ = x + p / 6 in
    let b : ℕ = y + p % 6 in
    let m : Cells = with_coef g c (b + n) coef in
    let rows = h.rows in
    let i' : IsWholeAt g c (b + n) = record { column = h.column; row = omega arith; whole = h.whole } in
    record {
      width = zeroed_width k n m c b;
      height = zeroed_height k n m c b;
      done = λ i l o t.
          let a : x + i / 6 ≡ c = omega arith in
          ap (λ (u : ℕ). is_decided k (coef_at (zeroed k n m c b) u (y + i % 6))) a
          ∙ elim (cases_lt (y + i % 6) (b + n)) [
            | inl u ↦ zeroed_done k n m c b (y + i % 6) (rows_changed g c b n c (b + n) coef (fewer_rows g c b n h few)) (omega arith) u
            | inr u ↦
                (let j : y + i % 6 ≡ b + n = omega arith in
                let z : coef_at (zeroed k n m c b) c (b + n) ≡ coef =
                zeroed_other k n m c b c (b + n) h.column h.column (λ q s y'. absurd (omega arith)) ∙ here_coef g c (b + n) coef i' in
                ap (λ (q : ℕ). is_decided k (coef_at (zeroed k n m c b) c q)) j ∙ (ap (λ (q : Coef). is_decided k q) z ∙ decided_next k coef e))
          ];
      same = λ i l t.
          let column = (place_of g x y i t).column in
          zeroed_other k n m c b (x + i / 6) (y + i % 6) h.column column (λ a s q. absurd (omega arith))
          ∙ other_coef g c (b + n) (x + i / 6) (y + i % 6) coef h.column column (λ a s. absurd (omega arith));
    }

pub run_named_left : {S : Type 0} (ask : S → Question → Bool × S) (k : Plane) (g : Cells) (x y w v d z p n w' v' rest runs : ℕ) (s t u : S)
    → Cleans k g x y w v d z p → y % 4 ≡ 0 → bit_at d p ≡ 1 → p % 6 ≡ 0 → bit_at z p ≡ 1 → n < 4
    → told ask (run_at k g (x + p / 6) (y + p % 6)) s ≡ told ask (named_at k g (x + p / 6) (y + p % 6) n) t
    → EndsIn k.causal x y (told ask (sign_of k g (x + p / 6) (y + p % 6 + n)) t) w' v' u
    → bit_at w' (p + n + 7) ≡ 1 → ((j : ℕ) → j ≢ p + n + 7 → bit_at w' j ≡ bit_at w j)
    → ((i : ℕ) → i ≤ p + n → bit_at rest i ≡ 0) → ((i : ℕ) → p + n < i → bit_at rest i ≡ bit_at d i)
    → ((i : ℕ) → i ≤ p + n + 6 → bit_at runs i ≡ 0) → ((i : ℕ) → p + n + 6 < i → bit_at runs i ≡ bit_at z i)
    → CleansIn k x y (told ask (pass_at_bit 0 k g x y p) s) w' v' rest runs (p + 1) u
run_named_left {S = S} ask k g x y w v d z p n w' v' rest runs s t u c f one r run few e ends up others before behind low high =
    let X : ℕ = x + p / 6 in
    let Y : ℕ = y + p % 6 in
    let q = is_left k g x y w v d z p p c (omega arith) one in
    let b = run_bit k g x y w v d z p c f one r run in
    let h = run_rows k g x y p c.now q.place b.0 in
    let negative : Bool = (ask t (sign_question k g X (Y + n))).0 in
    let coef : Coef = with_sign k negative (coef_at g X (Y + n)) in
    let m : Cells = with_coef g X (Y + n) coef in
    let o : Cells = zeroed k n m X Y in
    let tree : told ask (pass_at_bit 0 k g x y p) s ≡ (o, (told ask (sign_of k g X (Y + n)) t).1) = ap (λ (a : Asking Cells). told ask a s) b.1 ∙ e in
    let there : (told ask (pass_at_bit 0 k g x y p) s).0 ≡ o = ap (λ (a : Cells × S). a.0) tree in
    let now : IsNow k o = subst (λ (a : Cells). IsNow k a) there (bit_after ask 0 k g x y p s c.now).now in
    let sight : IsSight k.causal o x y w' v' =
    zeroed_sight k n m X Y x y w' v' (rows_changed g X Y n X (Y + n) coef (fewer_rows g X Y n h few)) ends.sight in
    record {
      word = subst (λ (a : Cells). Cleans k a x y w' v' rest runs (p + 1)) (sym there)
          (cleans_next k g o x y w v d z w' v' rest runs p (p + n) c now sight (omega arith) (named_later k g x y p n coef r few h refl) before behind
          (λ i l a j. runs_raised d w z rest w' runs (p + n) i behind up others low high (omega arith) (omega arith) j (c.runs i (omega arith) a j)));
      source = ends.source ∙ sym (ap (λ (a : Cells × S). a.1) tree);
    }

-- where the sign of the named one is asked for
pub named_place : (k : Plane) (g : Cells) (x y w v d z p n : ℕ) → Cleans k g x y w v d z p → y % 4 ≡ 0 → bit_at d p ≡ 1 → p % 6 ≡ 0 → bit_at z p ≡ 1 → n < 4
    → IsPlaceIn g (x + p / 6) (y + p % 6 + n)
named_place k g x y w v d z p n c f one r run few =
    let q = is_left k g x y w v d z p p c (omega arith) one in
    let b = run_bit k g x y w v d z p c f one r run in
    let h = run_rows k g x y p c.now q.place b.0 in
    let rows = h.rows in
    record { column = h.column; row = omega arith; whole = h.whole }

pub named_neat : (k : Plane) (g : Cells) (x y w v d z p n : ℕ) → Cleans k g x y w v d z p → y % 4 ≡ 0 → bit_at d p ≡ 1 → p % 6 ≡ 0 → bit_at z p ≡ 1 → n < 4
    → (coef_at g (x + p / 6) (y + p % 6 + n)).negative ≡ false
named_neat k g x y w v d z p n c f one r run few =
    let b = run_bit k g x y w v d z p c f one r run in
    c.now.at.neat ((y + p % 6 + n) * g.width + (x + p / 6)) ((is_one k g (x + p / 6) (y + p % 6) b.0).left n few).bits
