-- How many passes end a segment.
use Rattle.std.proofs.Common.{◌≡◌, ℕ, zero, suc, ◌+◌, ◌-◌, ◌<◌, ◌≤◌, true, false, inl, inr, ◌∙◌, ap, refl, add-one, arith}
use Rattle.std.proofs.lemmas.Bool.{cases_eq, cases_Bool, cond-true, cond-false}
use Rattle.jx_base.specs.Passes.{end_pass}
use Rattle.jx_base.specs.Pieces.{IsInOneSegment}
use Rattle.jx_codeblock.specs.Segments.{ends_below, segment_count}

pub below_ended : (style n : ℕ) → end_pass style n ≡ true → ends_below style (n + 1) ≡ ends_below style n + 1
below_ended style n e = rw add-one (ap (λ (k : ℕ). ends_below style n + k) (cond-true (end_pass style n) 1 0 e))

pub below_still : (style n : ℕ) → end_pass style n ≡ false → ends_below style (n + 1) ≡ ends_below style n
below_still style n e =
    let same : ends_below style n + 0 ≡ ends_below style n = omega arith in
    rw add-one (ap (λ (k : ℕ). ends_below style n + k) (cond-false (end_pass style n) 1 0 e) ∙ same)

pub below_grows : (style m n : ℕ) → m ≤ n → ends_below style m ≤ ends_below style n
below_grows style m zero le = let e : m ≡ 0 = omega arith in rw e (omega arith)
below_grows style m (suc n) le = elim (cases_eq m (suc n)) [
  | inl same ↦ rw same (omega arith)
  | inr other ↦ let before : ends_below style m ≤ ends_below style n = below_grows style m n (omega arith) in omega arith
]

-- none of these passes but the last ends a segment
pub below_within : (style first passes n : ℕ) → IsInOneSegment style first passes → first ≤ n → n < first + passes → ends_below style n ≡ ends_below style first
below_within style first passes zero one le lt = let e : first ≡ 0 = omega arith in rw e refl
below_within style first passes (suc n) one le lt = elim (cases_eq first (suc n)) [
  | inl same ↦ rw same refl
  | inr other ↦
      let flat : end_pass style n ≡ false = one n (omega arith) (omega arith) in
      let step : ends_below style (n + 1) ≡ ends_below style n = below_still style n flat in
      let step' : ends_below style (suc n) ≡ ends_below style n = rw add-one at step in
      step' ∙ below_within style first passes n one (omega arith) (omega arith)
]

-- a pass that ends one counts
pub below_more : (style m k n : ℕ) → m ≤ k → k < n → end_pass style k ≡ true → ends_below style m + 1 ≤ ends_below style n
below_more style m k n le lt e =
    let a : ends_below style m ≤ ends_below style k = below_grows style m k le in
    let b : ends_below style (k + 1) ≤ ends_below style n = below_grows style (k + 1) n (omega arith) in
    let c : ends_below style (k + 1) ≡ ends_below style k + 1 = below_ended style k e in
    omega arith

pub count_is : (style passes : ℕ) → 0 < passes → segment_count style passes ≡ ends_below style (passes - 1) + 1
count_is style zero lt = absurd (omega arith)
count_is style (suc n) lt =
    let e : suc n - 1 ≡ n = omega arith in
    rw e (omega arith)

pub below_few : (style n : ℕ) → ends_below style n ≤ n
below_few style zero = omega arith
below_few style (suc n) = elim (cases_Bool (end_pass style n)) [
  | inl t ↦ let e = below_ended style n t in let e' : ends_below style (suc n) ≡ ends_below style n + 1 = rw add-one at e in omega (arith, below_few style n)
  | inr f ↦ let e = below_still style n f in let e' : ends_below style (suc n) ≡ ends_below style n = rw add-one at e in omega (arith, below_few style n)
]
