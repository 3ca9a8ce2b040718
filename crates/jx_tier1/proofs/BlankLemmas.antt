-- A block of which nothing was decided, and its words.
use Rattle.std.proofs.Common.{◌≡◌, ◌+◌, ◌-◌, ◌*◌, ◌/◌, ◌%◌, ℕ, zero, suc, Bool, false, refl, sym, ap, ◌∙◌, inl, inr, get_or, replicate, if◌then◌else◌}
use Rattle.std.specs.Prelude.{nat_lt}
use Rattle.std.specs.Int.{bit_at}
use Rattle.std.proofs.lemmas.Bool.{cases_Bool}
use Rattle.std.proofs.lemmas.Nat.Bits.{bit_at-zero}
use Rattle.jx_tier1_specs.specs.declared.coef.Coef.{Coef}
use Rattle.jx_tier1_specs.specs.Cells.{zero_coef, coef_at}
use Rattle.jx_tier1_specs.specs.Near.{one_if}
use Rattle.jx_tier1_specs.specs.Reading.{zeros}
use Rattle.jx_tier1_specs.proofs.PassBackLemmas.{zero_at}
use Rattle.jx_tier1.specs.Blocks.{bit_in, Draws, wide_for, count_for, blank}
use Rattle.jx_tier1.specs.BlockPasses.{is_more, Shows}
use Rattle.jx_tier1.specs.Marks.{is_outside}
use Rattle.jx_tier1.proofs.FlagLemmas.{flag, is_marked, is_negative, draws_marks, draws_signs}
use Rattle.jx_tier1.proofs.MoreLemmas.{none_more}
use Rattle.jx_tier1.proofs.PassLemmas.{visited_before}

-- words of 0
none_at : (n i : ℕ) → ◌≡◌ {A = ℕ} (get_or (replicate n 0) i 0) 0
none_at zero i = refl
none_at (suc n) zero = refl
none_at (suc n) (suc i) = none_at n i

no_bit : (wide n column row : ℕ) → bit_in wide (replicate n 0) column row ≡ 0
no_bit wide n column row =
    let i : ℕ = 6 * ((column + 7) % 8) + (row + 3) % 4 in
    ap (λ (m : ℕ). bit_at m i) (none_at n ((row + 3) / 4 * wide + (column + 7) / 8)) ∙ bit_at-zero i

-- coefficients of 0
zero_there : (w h x y : ℕ) → coef_at (zeros w h) x y ≡ zero_coef
zero_there w h x y = zero_at (h * w) (y * w + x)

no_flag : (T : Coef → Bool) (w h column row : ℕ) → T zero_coef ≡ false → flag T (zeros w h) column row ≡ 0
no_flag T w h column row e =
    let f : one_if (T (coef_at (zeros w h) (column - 1) (row - 1))) ≡ 0 = ap (λ (c : Coef). one_if (T c)) (zero_there w h (column - 1) (row - 1)) ∙ ap one_if e in
    elim (cases_Bool (is_outside (zeros w h) column row)) [
      | inl o ↦ ap (λ (b : Bool). if b then 0 else one_if (T (coef_at (zeros w h) (column - 1) (row - 1)))) o
      | inr o ↦ (ap (λ (b : Bool). if b then 0 else one_if (T (coef_at (zeros w h) (column - 1) (row - 1)))) o ∙ f)
    ]

draws_none : (T : Coef → Bool) (w h wide n : ℕ) → T zero_coef ≡ false → Draws wide (flag T (zeros w h)) (replicate n 0)
draws_none T w h wide n e = record { at = λ column row l. no_bit wide n column row ∙ sym (no_flag T w h column row e) }

pub shows_blank : (planes w h : ℕ) → Shows planes 0 (zeros w h) (blank w h)
shows_blank planes w h =
    let n : ℕ = count_for w h in
    let wide : ℕ = wide_for w in
    record {
      drawn = record {
        width = refl;
        height = refl;
        significant = draws_marks wide (zeros w h) (replicate n 0) (draws_none is_marked w h wide n refl);
        negative = draws_signs wide (zeros w h) (replicate n 0) (draws_none is_negative w h wide n refl);
        refined = λ x y l m.
            no_bit wide n (x + 1) (y + 1)
            ∙ sym (ap (λ (c : Coef). one_if (is_more planes c)) (zero_there w h x y) ∙ ap one_if (none_more planes zero_coef refl));
      };
      visited = record {
        at = λ x y l m.
            visited_before 2 0 (zeros w h) (blank w h) x y
            (λ z. no_bit wide n (x + 1) (y + 1) ∙ sym (ap (λ (c : Coef). one_if (nat_lt 0 c.planes)) (zero_there w h x y)));
      };
    }
