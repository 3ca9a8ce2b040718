-- What a grid's answers make of another grid may still become it.
use Rattle.std.proofs.Common.{◌≡◌, ◌≢◌, ◌<◌, ◌≤◌, ◌+◌, ◌*◌, ◌%◌, ◌==◌, nat_lt, nat_le, ℕ, zero, suc, Bool, true, false, not, ◌&&◌, ◌||◌, List, length, get_or, set, refl, sym, ap, arith, subst, inl, inr, lit≤, if◌then◌else◌}
use Rattle.std.proofs.lemmas.Bool.Decides.{nat_tests}
use Rattle.std.proofs.lemmas.Bool.{cases_eq, ltb-false, not-true, and_parts, ltb-true}
use Rattle.std.proofs.lemmas.List.{get_or-set_same, get_or-set_other, length-set}
use Rattle.jx_tier1_specs.specs.declared.coef.Coef.{Coef}
use Rattle.jx_tier1_specs.specs.declared.question.Plane.{Plane}
use Rattle.jx_tier1_specs.specs.Cells.{Cells, zero_coef, coef_at, with_coef, significant}
use Rattle.jx_tier1_specs.specs.Asking.{Asking, Told}
use Rattle.jx_tier1_specs.specs.Pass.{IsScan, shift_of, is_decided, with_bit, with_sign, changed, label_at, sign_of, bit_of, significance_at, refinement_at, usual_at, is_run, zeroed, number_in_run, named_at, place_at, run_at, cleanup_at, pass_at}
use Rattle.jx_tier1_specs.specs.Needs.{bit_at_place, first_of_four, followed}
use Rattle.jx_tier1_specs.proofs.FrontLemmas.{IsBefore, IsClean, zero_clean, sign_clean}
use Rattle.jx_tier1_specs.proofs.GridLemmas.{IsFront, AreClean, IsIn, IsWhole, index_in, with_clean, below_with, above_with}
use Rattle.jx_tier1_specs.proofs.StayLemmas.{IsDue, zero_stays, sign_stays, more_stays}
use Rattle.jx_tier1_specs.proofs.StepLemmas.{no_bits, clean_at, or_right}
use Rattle.jx_tier1_specs.proofs.RunBackLemmas.{IsLeft, left_same, IsRun, is_one}
use Rattle.jx_tier1_specs.proofs.WroteLemmas.{or_false}

-- a grid that may become another, of which all planes above one were decided, and in the other that one too
pub record AreDue (k : Plane) (m g : Cells) : Type 0 where
  pub front : IsFront k.planes m g
  pub clean : AreClean k.planes (k.number + 1) m
  pub least : (i : ℕ) → i < length m.coefs → k.number ≤ (get_or m.coefs i zero_coef).planes
  pub more : (i : ℕ) → i < length m.coefs → k.number + 1 ≤ (get_or g.coefs i zero_coef).planes

due_at : (k : Plane) (m g : Cells) (x y : ℕ) → IsIn m x y → AreDue k m g → (coef_at m x y).planes ≤ k.number → IsDue k (coef_at m x y) (coef_at g x y)
due_at k m g x y i d u =
    let j : ℕ = y * m.width + x in
    let l = index_in m x y d.clean.whole i in
    let n = d.least j l in
    let P : ℕ → Type 0 = λ w. IsBefore k.planes (coef_at m x y) (get_or g.coefs (y * w + x) zero_coef) in
    let Q : ℕ → Type 0 = λ w. k.number + 1 ≤ (get_or g.coefs (y * w + x) zero_coef).planes in
    record {
      planes = omega arith;
      low = (d.clean.at j).low;
      before = subst P (sym d.front.width) (d.front.at j);
      more = subst Q (sym d.front.width) (d.more j l);
    }

set_stays : (planes : ℕ) (xs ys : List Coef) (i : ℕ) (c : Coef) → IsBefore planes c (get_or ys i zero_coef) → i < length xs
    → ((j : ℕ) → IsBefore planes (get_or xs j zero_coef) (get_or ys j zero_coef)) → (j : ℕ) → IsBefore planes (get_or (set xs i c) j zero_coef) (get_or ys j zero_coef)
set_stays planes xs ys i c h l f j =
    let P : ℕ → Type 0 = λ n. IsBefore planes (get_or (set xs i c) n zero_coef) (get_or ys n zero_coef) in
    let Q : Coef → Type 0 = λ d. IsBefore planes d (get_or ys i zero_coef) in
    let R : Coef → Type 0 = λ d. IsBefore planes d (get_or ys j zero_coef) in
    elim (cases_eq j i) [
      | inl e ↦ subst P (sym e) (subst Q (sym (get_or-set_same xs i c zero_coef l)) h)
      | inr e ↦ subst R (sym (get_or-set_other xs i j c zero_coef e)) (f j)
    ]

with_stays : (planes : ℕ) (m g : Cells) (x y : ℕ) (c : Coef) → IsWhole m → IsIn m x y → IsFront planes m g → IsBefore planes c (coef_at g x y)
    → IsFront planes (with_coef m x y c) g
with_stays planes m g x y c w i f h =
    let P : ℕ → Type 0 = λ n. IsBefore planes c (get_or g.coefs (y * n + x) zero_coef) in
    record {
      width = f.width;
      height = f.height;
      at = set_stays planes m.coefs g.coefs (y * m.width + x) c (subst P f.width h) (index_in m x y w i) f.at;
    }

set_least : (n : ℕ) (xs : List Coef) (i : ℕ) (c : Coef) → n ≤ c.planes → i < length xs → ((j : ℕ) → j < length xs → n ≤ (get_or xs j zero_coef).planes)
    → (j : ℕ) → j < length xs → n ≤ (get_or (set xs i c) j zero_coef).planes
set_least n xs i c h l f j b =
    let P : ℕ → Type 0 = λ v. n ≤ (get_or (set xs i c) v zero_coef).planes in
    let Q : Coef → Type 0 = λ d. n ≤ d.planes in
    elim (cases_eq j i) [
      | inl e ↦ subst P (sym e) (subst Q (sym (get_or-set_same xs i c zero_coef l)) h)
      | inr e ↦ subst Q (sym (get_or-set_other xs i j c zero_coef e)) (f j b)
    ]

due_with : (k : Plane) (m g : Cells) (x y : ℕ) (c : Coef) → IsIn m x y → AreDue k m g → IsBefore k.planes c (coef_at g x y)
    → IsClean k.planes (k.number + 1) c → k.number ≤ c.planes → AreDue k (with_coef m x y c) g
due_with k m g x y c i d b h n =
    let j : ℕ = y * m.width + x in
    let l = index_in m x y d.clean.whole i in
    let e = length-set m.coefs j c in
    record {
      front = with_stays k.planes m g x y c d.clean.whole i d.front b;
      clean = with_clean k.planes (k.number + 1) m x y c i d.clean h;
      least = λ v q. set_least k.number m.coefs j c n l d.least v (omega arith);
      more = λ v q. d.more v (omega arith);
    }

-- where the grid answers, the result stays below it
abbrev pub Stays : Plane → Cells → Asking Cells → Type 0
Stays k g t = IsFront k.planes (followed g t) g

stays_if : (k : Plane) (g : Cells) (b : Bool) (t u : Asking Cells) → (b ≡ true → Stays k g t) → (b ≡ false → Stays k g u) → Stays k g (if b then t else u)
stays_if k g true t u p q = p refl
stays_if k g false t u p q = q refl

bit_stays : (k : Plane) (m g : Cells) (x y : ℕ) → IsScan k → IsIn m x y → AreDue k m g → (coef_at m x y).bits ≡ 0 → (coef_at m x y).planes ≤ k.number
    → Stays k g (bit_of k m x y)
bit_stays k m g x y s i d z u =
    let c : Coef = coef_at m x y in
    let h = due_at k m g x y i d u in
    stays_if k g (bit_at_place g (shift_of k) x y) (sign_of k m x y) (Told (changed m x y (with_bit k false)))
    (λ e. with_stays k.planes m g x y (with_sign k (coef_at g x y).negative c) d.clean.whole i d.front (sign_stays k c (coef_at g x y) s h e))
    (λ e. with_stays k.planes m g x y (with_bit k false c) d.clean.whole i d.front (zero_stays k c (coef_at g x y) s h z e))

significance_stays : (k : Plane) (m g : Cells) (x y : ℕ) → IsScan k → IsIn m x y → AreDue k m g → Stays k g (significance_at k m x y)
significance_stays k m g x y s i d =
    let c : Coef = coef_at m x y in
    let p : Bool = significant c || is_decided k c in
    let l : Bool = label_at k m x y == 0 in
    stays_if k g (p || l) (Told m) (bit_of k m x y) (λ e. d.front)
    (λ e. bit_stays k m g x y s i d (no_bits c.bits (or_false (significant c) (is_decided k c) (or_false p l e)))
    (ltb-false k.number c.planes (or_right (significant c) (is_decided k c) (or_false p l e))))

usual_stays : (k : Plane) (m g : Cells) (x y : ℕ) → IsScan k → IsIn m x y → AreDue k m g → Stays k g (usual_at k m x y)
usual_stays k m g x y s i d =
    let c : Coef = coef_at m x y in
    stays_if k g (significant c || is_decided k c) (Told m) (bit_of k m x y) (λ e. d.front)
    (λ e. bit_stays k m g x y s i d (no_bits c.bits (or_false (significant c) (is_decided k c) e))
    (ltb-false k.number c.planes (or_right (significant c) (is_decided k c) e)))

pub some_bits : (n : ℕ) → not (n == 0) ≡ true → n ≢ 0
some_bits n h = grind (arith, nat_tests)

refinement_stays : (k : Plane) (m g : Cells) (x y : ℕ) → IsScan k → IsIn m x y → AreDue k m g → Stays k g (refinement_at k m x y)
refinement_stays k m g x y s i d =
    let c : Coef = coef_at m x y in
    stays_if k g (significant c && not (is_decided k c)) _ (Told m)
    (λ e.
    let u = ltb-false k.number c.planes (not-true (is_decided k c) ((and_parts (significant c) (not (is_decided k c)) e).1)) in
    with_stays k.planes m g x y (with_bit k (bit_at_place g (shift_of k) x y) c) d.clean.whole i d.front
    (more_stays k (bit_at_place g (shift_of k) x y) c (coef_at g x y) s (due_at k m g x y i d u) (some_bits c.bits ((and_parts (significant c) (not (is_decided k c)) e).0)) refl))
    (λ e. d.front)

-- the first of four that has the bit
record IsFirst (g : Cells) (s x y f : ℕ) : Type 0 where
  pub off : (i : ℕ) → i < f → bit_at_place g s x (y + i) ≡ false
  pub on : f < 4 → bit_at_place g s x (y + f) ≡ true

none_below1 : (g : Cells) (s x y i : ℕ) → i < 1 → bit_at_place g s x (y + 0) ≡ false → bit_at_place g s x (y + i) ≡ false
none_below1 g s x y zero l p = p
none_below1 g s x y (suc i) l p = absurd (omega arith)

none_below2 : (g : Cells) (s x y i : ℕ) → i < 2 → bit_at_place g s x (y + 0) ≡ false → bit_at_place g s x (y + 1) ≡ false → bit_at_place g s x (y + i) ≡ false
none_below2 g s x y zero l p q = p
none_below2 g s x y (suc zero) l p q = q
none_below2 g s x y (suc (suc i)) l p q = absurd (omega arith)

none_below3 : (g : Cells) (s x y i : ℕ) → i < 3 → bit_at_place g s x (y + 0) ≡ false → bit_at_place g s x (y + 1) ≡ false → bit_at_place g s x (y + 2) ≡ false
    → bit_at_place g s x (y + i) ≡ false
none_below3 g s x y zero l p q r = p
none_below3 g s x y (suc zero) l p q r = q
none_below3 g s x y (suc (suc zero)) l p q r = r
none_below3 g s x y (suc (suc (suc i))) l p q r = absurd (omega arith)

none_below4 : (g : Cells) (s x y i : ℕ) → i < 4 → bit_at_place g s x (y + 0) ≡ false → bit_at_place g s x (y + 1) ≡ false → bit_at_place g s x (y + 2) ≡ false
    → bit_at_place g s x (y + 3) ≡ false → bit_at_place g s x (y + i) ≡ false
none_below4 g s x y zero l p q r t = p
none_below4 g s x y (suc zero) l p q r t = q
none_below4 g s x y (suc (suc zero)) l p q r t = r
none_below4 g s x y (suc (suc (suc zero))) l p q r t = t
none_below4 g s x y (suc (suc (suc (suc i)))) l p q r t = absurd (omega arith)

first_by : (g : Cells) (s x y : ℕ) (a b c d : Bool) → bit_at_place g s x (y + 0) ≡ a → bit_at_place g s x (y + 1) ≡ b → bit_at_place g s x (y + 2) ≡ c → bit_at_place g s x (y + 3) ≡ d
    → IsFirst g s x y (if a then 0 else if b then 1 else if c then 2 else if d then 3 else 4)
first_by g s x y true b c d p q r t = record { off = λ i l. absurd (omega arith); on = λ l. p }
first_by g s x y false true c d p q r t = record { off = λ i l. none_below1 g s x y i l p; on = λ l. q }
first_by g s x y false false true d p q r t = record { off = λ i l. none_below2 g s x y i l p q; on = λ l. r }
first_by g s x y false false false true p q r t = record { off = λ i l. none_below3 g s x y i l p q r; on = λ l. t }
first_by g s x y false false false false p q r t = record { off = λ i l. none_below4 g s x y i l p q r t; on = λ l. absurd (omega arith) }

first_facts : (g : Cells) (s x y : ℕ) → IsFirst g s x y (first_of_four g s x y)
first_facts g s x y =
    let e : y + 0 ≡ y = omega arith in
    first_by g s x y (bit_at_place g s x y) (bit_at_place g s x (y + 1)) (bit_at_place g s x (y + 2)) (bit_at_place g s x (y + 3))
    (ap (λ (r : ℕ). bit_at_place g s x r) e) refl refl refl

number_of_first : (f : ℕ) → f < 4 → number_in_run (nat_le 2 f) (f % 2 == 1) ≡ f
number_of_first zero l = refl
number_of_first (suc zero) l = refl
number_of_first (suc (suc zero)) l = refl
number_of_first (suc (suc (suc zero))) l = refl
number_of_first (suc (suc (suc (suc f)))) l = absurd (omega arith)

next_row : (y j : ℕ) → y + suc j ≡ y + 1 + j
next_row y j = omega arith

-- rows that the grid has 0 in
rows_stay : (k : Plane) (count : ℕ) (m g : Cells) (x y : ℕ) → IsScan k → x < m.width → y + count ≤ m.height → AreDue k m g
    → ((i : ℕ) → i < count → IsLeft k (coef_at m x (y + i))) → ((i : ℕ) → i < count → bit_at_place g (shift_of k) x (y + i) ≡ false)
    → IsFront k.planes (zeroed k count m x y) g
rows_stay k zero m g x y s p q d l b = d.front
rows_stay k (suc n) m g x y s p q d l b =
    let c : Coef = coef_at m x y in
    let e : y + 0 ≡ y = omega arith in
    let i : IsIn m x y = record { column = p; row = omega arith } in
    let t : IsLeft k c = subst (λ (r : ℕ). IsLeft k (coef_at m x r)) e (l 0 (omega arith)) in
    let o : bit_at_place g (shift_of k) x y ≡ false = subst (λ (r : ℕ). bit_at_place g (shift_of k) x r ≡ false) e (b 0 (omega arith)) in
    let h : Cells = changed m x y (with_bit k false) in
    let w = due_with k m g x y (with_bit k false c) i d (zero_stays k c (coef_at g x y) s (due_at k m g x y i d t.planes) t.bits o)
    (zero_clean k c (clean_at k m x y d.clean)) (omega arith) in
    rows_stay k n h g x (y + 1) s p (omega arith) w
    (λ j v. left_same k (coef_at m x (y + 1 + j)) (coef_at h x (y + 1 + j)) (below_with m x y (y + 1 + j) (with_bit k false c) (omega arith) (omega arith))
    (subst (λ (r : ℕ). IsLeft k (coef_at m x r)) (next_row y j) (l (suc j) (omega arith))))
    (λ j v. subst (λ (r : ℕ). bit_at_place g (shift_of k) x r ≡ false) (next_row y j) (b (suc j) (omega arith)))

named_stays : (k : Plane) (m g : Cells) (x y n : ℕ) → IsScan k → x < m.width → AreDue k m g → IsRun k m x y → n < 4 → IsFirst g (shift_of k) x y n
    → Stays k g (named_at k m x y n)
named_stays k m g x y n s p d r l f =
    let c : Coef = coef_at m x (y + n) in
    let negative : Bool = (coef_at g x (y + n)).negative in
    let rows = r.rows in
    let i : IsIn m x (y + n) = record { column = p; row = omega arith } in
    let t = r.left n l in
    let q : Cells = changed m x (y + n) (with_sign k negative) in
    let w : AreDue k q g = due_with k m g x (y + n) (with_sign k negative c) i d (sign_stays k c (coef_at g x (y + n)) s (due_at k m g x (y + n) i d t.planes) (f.on l))
    (sign_clean k negative c s t.planes (clean_at k m x (y + n) d.clean)) (omega arith) in
    rows_stay k n q g x y s p (omega arith) w
    (λ j v. left_same k (coef_at m x (y + j)) (coef_at q x (y + j)) (above_with m x (y + n) (y + j) (with_sign k negative c) (omega arith) (omega arith)) (r.left j (omega arith)))
    f.off

first_most : (a b c d : Bool) → (if a then 0 else if b then 1 else if c then 2 else if d then 3 else 4) ≤ 4
first_most true b c d = lit≤ tt
first_most false true c d = lit≤ tt
first_most false false true d = lit≤ tt
first_most false false false true = lit≤ tt
first_most false false false false = lit≤ tt

not_less : (f : ℕ) → nat_lt f 4 ≡ false → f ≤ 4 → f ≡ 4
not_less f h l = grind (arith, nat_tests)

run_stays : (k : Plane) (m g : Cells) (x y : ℕ) → IsScan k → x < m.width → AreDue k m g → IsRun k m x y → Stays k g (run_at k m x y)
run_stays k m g x y s p d r =
    let f : ℕ = first_of_four g (shift_of k) x y in
    let h = first_facts g (shift_of k) x y in
    stays_if k g (nat_lt f 4) (place_at k m x y) (Told (zeroed k 4 m x y))
    (λ e.
    let l = ltb-true f 4 e in
    let P : ℕ → Type 0 = λ n. Stays k g (named_at k m x y n) in
    subst P (sym (number_of_first f l)) (named_stays k m g x y f s p d r l h))
    (λ e.
    let q = not_less f e (first_most (bit_at_place g (shift_of k) x y) (bit_at_place g (shift_of k) x (y + 1)) (bit_at_place g (shift_of k) x (y + 2)) (bit_at_place g (shift_of k) x (y + 3))) in
    rows_stay k 4 m g x y s p r.rows d r.left (λ i v. h.off i (omega arith)))

cleanup_stays : (k : Plane) (m g : Cells) (x y : ℕ) → IsScan k → IsIn m x y → AreDue k m g → Stays k g (cleanup_at k m x y)
cleanup_stays k m g x y s i d =
    stays_if k g (is_run k m x y) (run_at k m x y) (usual_at k m x y)
    (λ e. run_stays k m g x y s i.column d (is_one k m x y e))
    (λ e. usual_stays k m g x y s i d)

pub place_stays : (pass : ℕ) (k : Plane) (m g : Cells) (x y : ℕ) → IsScan k → IsIn m x y → AreDue k m g → Stays k g (pass_at pass k m x y)
place_stays pass k m g x y s i d =
    stays_if k g (pass % 3 == 1) (significance_at k m x y) (if pass % 3 == 2 then refinement_at k m x y else cleanup_at k m x y)
    (λ e. significance_stays k m g x y s i d)
    (λ e. stays_if k g (pass % 3 == 2) (refinement_at k m x y) (cleanup_at k m x y) (λ f. refinement_stays k m g x y s i d) (λ f. cleanup_stays k m g x y s i d))
