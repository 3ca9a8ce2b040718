-- The coefficients after some bits of a word: they go on within the plane.
use Rattle.std.proofs.Common.{◌≡◌, ◌<◌, ◌+◌, ◌*◌, ◌/◌, ◌%◌, ◌&&◌, ℕ, zero, suc, Bool, true, false, refl, sym, ◌∙◌, arith, subst, inl, inr}
use Rattle.std.specs.Prelude.{nat_lt}
use Rattle.std.proofs.lemmas.Bool.{cases_Bool}
use Rattle.std.proofs.lemmas.Bool.Decides.{nat_tests}
use Rattle.jx_tier1_specs.specs.declared.question.Plane.{Plane}
use Rattle.jx_tier1_specs.specs.declared.question.Question.{Question}
use Rattle.jx_tier1_specs.specs.Cells.{Cells, coef_at, significant}
use Rattle.jx_tier1_specs.specs.Asking.{Asking, told}
use Rattle.jx_tier1_specs.proofs.StepLemmas.{no_bits}
use Rattle.jx_tier1_specs.proofs.Told.{told_then}
use Rattle.jx_tier1.specs.Walking.{IsNow}
use Rattle.jx_tier1.specs.WordScan.{has_place, pass_at_bit, bits_scanned}
use Rattle.jx_tier1.proofs.MarkLemmas.{IsWholeAt}
use Rattle.jx_tier1.proofs.PaceLemmas.{IsAfter, place_after}
use Rattle.jx_tier1.proofs.WordScanLemmas.{at_place, at_no_place}

tests_of : (a b c d e f : ℕ) → (nat_lt a b && (nat_lt c d && nat_lt e f)) ≡ true → (c < d) × (e < f)
tests_of a b c d e f h = grind (arith, nat_tests)

pub bit_after : {S : Type 0} (ask : S → Question → Bool × S) (pass : ℕ) (k : Plane) (g : Cells) (x y p : ℕ) (s : S) → IsNow k g
    → IsAfter k g (told ask (pass_at_bit pass k g x y p) s).0
bit_after ask pass k g x y p s n =
    let P : Asking Cells → Type 0 = λ t. IsAfter k g (told ask t s).0 in
    elim (cases_Bool (has_place g x y p)) [
      | inl e ↦
          (let t = tests_of (p % 6) 4 (x + p / 6) g.width (y + p % 6) g.height e in
          subst P (sym (at_place pass k g x y p e)) (place_after ask pass k g (x + p / 6) (y + p % 6) s n (record { column = t.0; row = t.1 })))
      | inr e ↦ subst P (sym (at_no_place pass k g x y p e)) (record { now = n; width = refl; height = refl })
    ]

pub bits_after : {S : Type 0} (ask : S → Question → Bool × S) (pass : ℕ) (k : Plane) (x y count p : ℕ) (g : Cells) (s : S) → IsNow k g
    → IsAfter k g (told ask (bits_scanned pass k x y count p g) s).0
bits_after ask pass k x y zero p g s n = record { now = n; width = refl; height = refl }
bits_after {S = S} ask pass k x y (suc count) p g s n =
    let t : Asking Cells = pass_at_bit pass k g x y p in
    let v : Cells = (told ask t s).0 in
    let more : Cells → Asking Cells = λ h. bits_scanned pass k x y count (p + 1) h in
    let a = bit_after ask pass k g x y p s n in
    let b = bits_after ask pass k x y count (p + 1) v (told ask t s).1 a.now in
    let P : Cells × S → Type 0 = λ u. IsAfter k g u.0 in
    subst P (sym (told_then ask t more s)) (record { now = b.now; width = b.width ∙ a.width; height = b.height ∙ a.height })

-- a place of a block within the plane
pub whole_at : (k : Plane) (g : Cells) (x y : ℕ) → IsNow k g → x < g.width → y < g.height → IsWholeAt g x y
whole_at k g x y n a b = record { column = a; row = b; whole = n.at.clean.whole.size }

-- what isn't significant isn't negative
pub neat_at : (k : Plane) (g : Cells) (x y : ℕ) → IsNow k g → significant (coef_at g x y) ≡ false → (coef_at g x y).negative ≡ false
neat_at k g x y n e = n.at.neat (y * g.width + x) (no_bits (coef_at g x y).bits e)
