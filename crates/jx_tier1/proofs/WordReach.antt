-- A pass over a word that passes over bits at which nothing is asked.
use Rattle.std.proofs.Common.{◌≡◌, ◌<◌, ◌≤◌, ◌+◌, ◌-◌, ◌^◌, ℕ, Bool, ap, ◌∙◌, arith, inl, inr, w64}
use Rattle.std.specs.Int.{bit_at, trailing_zeros}
use Rattle.std.specs.Int.Count.{trailing_of_zero}
use Rattle.std.proofs.lemmas.Bool.{cases_eq, cases_lt}
use Rattle.std.proofs.lemmas.Nat.Bits.{bit_at-trailing_zeros}
use Rattle.jx_tier1_specs.specs.declared.question.Plane.{Plane}
use Rattle.jx_tier1_specs.specs.declared.question.Question.{Question}
use Rattle.jx_tier1_specs.specs.Cells.{Cells}
use Rattle.jx_tier1_specs.specs.Asking.{Told, told}
use Rattle.jx_tier1.specs.WordScan.{pass_at_bit, bits_scanned}
use Rattle.jx_tier1.proofs.WordScanLemmas.{bits_then, bits_none, one_bit}

-- some bits were passed over
pub bits_over : {S : Type 0} (ask : S → Question → Bool × S) (pass : ℕ) (k : Plane) (x y a p : ℕ) (g h : Cells) (s t : S)
    → told ask (bits_scanned pass k x y a 0 g) s ≡ (h, t) → a ≤ p → ((i : ℕ) → a ≤ i → i < p → pass_at_bit pass k h x y i ≡ Told h)
    → told ask (bits_scanned pass k x y p 0 g) s ≡ (h, t)
bits_over {S = S} ask pass k x y a p g h s t e l none =
    let i : p ≡ a + (p - a) = omega arith in
    let b : 0 + a ≡ a = omega arith in
    ap (λ (n : ℕ). told ask (bits_scanned pass k x y n 0 g) s) i
    ∙ (bits_then ask pass k x y a (p - a) 0 g s
    ∙ (ap (λ (z : Cells × S). told ask (bits_scanned pass k x y (p - a) (0 + a) z.0) z.1) e
    ∙ (ap (λ (n : ℕ). told ask (bits_scanned pass k x y (p - a) n h) t) b ∙ bits_none ask pass k x y (p - a) a h t (λ j m o. none j m (omega arith)))))

-- one bit more
pub bits_more : {S : Type 0} (ask : S → Question → Bool × S) (pass : ℕ) (k : Plane) (x y p : ℕ) (g h v : Cells) (s t u : S)
    → told ask (bits_scanned pass k x y p 0 g) s ≡ (h, t) → told ask (pass_at_bit pass k h x y p) t ≡ (v, u)
    → told ask (bits_scanned pass k x y (p + 1) 0 g) s ≡ (v, u)
bits_more {S = S} ask pass k x y p g h v s t u e f =
    let b : 0 + p ≡ p = omega arith in
    bits_then ask pass k x y p 1 0 g s
    ∙ (ap (λ (z : Cells × S). told ask (bits_scanned pass k x y 1 (0 + p) z.0) z.1) e
    ∙ (ap (λ (n : ℕ). told ask (bits_scanned pass k x y 1 n h) t) b ∙ (one_bit ask pass k x y p h t ∙ f)))

-- the lowest bit of a word without its lowest one
pub lower : (d n p : ℕ) → 0 < d → d < 2 ^ 64 → n < 2 ^ 64 → bit_at d p ≡ 1 → ((i : ℕ) → i ≤ p → bit_at n i ≡ 0)
    → 64 - trailing_zeros w64 n < 64 - trailing_zeros w64 d
lower d n p l a b e z =
    let t = bit_at-trailing_zeros w64 d l a in
    let o = t.0 in
    elim (cases_eq n 0) [
      | inl q ↦ let c : trailing_zeros w64 n ≡ 64 = ap (λ (m : ℕ). trailing_zeros w64 m) q ∙ trailing_of_zero 64 in omega arith
      | inr q ↦
          (let u = bit_at-trailing_zeros w64 n (omega arith) b in
          let f = u.1 in
          elim (cases_lt p (trailing_zeros w64 n)) [
            | inl m ↦ elim (cases_lt p (trailing_zeros w64 d)) [
              | inl r ↦ let g = t.2 p r in absurd (omega arith)
              | inr r ↦ omega arith
            ]
            | inr m ↦ let g = z (trailing_zeros w64 n) m in absurd (omega arith)
          ])
    ]
