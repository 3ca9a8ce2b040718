-- Places that have a significant one near.
use Rattle.std.proofs.Common.{◌≡◌, ◌+◌, ◌/◌, ℕ, refl, ap, ◌∙◌, max, arith}
use Rattle.std.specs.Int.{bit_at}
use Rattle.std.specs.Int.Bits.{bit_or}
use Rattle.jx_tier1.specs.Places.{of_three, of_nine, of_eight}
use Rattle.jx_tier1.proofs.BitLemmas.{bit_shr, or_bit}

three_are : (w i : ℕ) → bit_at (bit_or (bit_or w (w / 2)) (w / 4)) i ≡ of_three w i
three_are w i =
    or_bit (bit_or w (w / 2)) (w / 4) i (max (bit_at w i) (bit_at w (i + 1))) (bit_at w (i + 2))
    (or_bit w (w / 2) i (bit_at w i) (bit_at w (i + 1)) refl (bit_shr w 1 i)) (bit_shr w 2 i)

pub near_is : (w i : ℕ)
    → bit_at (bit_or (bit_or (bit_or (bit_or w (w / 2)) (w / 4)) (bit_or (bit_or w (w / 2)) (w / 4) / 64)) (bit_or (bit_or w (w / 2)) (w / 4) / 4096)) i ≡ of_nine w i
near_is w i =
    let v : ℕ = bit_or (bit_or w (w / 2)) (w / 4) in
    or_bit (bit_or v (v / 64)) (v / 4096) i (max (of_three w i) (of_three w (i + 6))) (of_three w (i + 12))
    (or_bit v (v / 64) i (of_three w i) (of_three w (i + 6)) (three_are w i) (bit_shr v 6 i ∙ three_are w (i + 6)))
    (bit_shr v 12 i ∙ three_are w (i + 12))

pub beside_is : (w i : ℕ)
    → bit_at (bit_or (bit_or (bit_or (bit_or w (w / 2)) (w / 4)) (bit_or (bit_or w (w / 2)) (w / 4) / 4096)) (bit_or w (w / 4) / 64)) i ≡ of_eight w i
beside_is w i =
    let v : ℕ = bit_or (bit_or w (w / 2)) (w / 4) in
    let e : i + 6 + 2 ≡ i + 8 = omega arith in
    or_bit (bit_or v (v / 4096)) (bit_or w (w / 4) / 64) i (max (of_three w i) (of_three w (i + 12))) (max (bit_at w (i + 6)) (bit_at w (i + 8)))
    (or_bit v (v / 4096) i (of_three w i) (of_three w (i + 12)) (three_are w i) (bit_shr v 12 i ∙ three_are w (i + 12)))
    (bit_shr (bit_or w (w / 4)) 6 i
    ∙ or_bit w (w / 4) (i + 6) (bit_at w (i + 6)) (bit_at w (i + 8)) refl (bit_shr w 2 (i + 6) ∙ ap (λ (n : ℕ). bit_at w n) e))
