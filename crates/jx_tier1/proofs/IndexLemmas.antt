-- The numbers of places in tables.
use Rattle.std.proofs.Common.{◌≡◌, ◌<◌, ◌≤◌, ◌+◌, ◌-◌, ◌*◌, ◌/◌, ◌%◌, ◌^◌, ℕ, min, max, refl, ap, ◌∙◌, arith}
use Rattle.std.specs.Int.{bit_at}
use Rattle.std.specs.Int.Bits.{bit_and, bit_or}
use Rattle.std.proofs.lemmas.Nat.Bits.{bit_at-lt}
use Rattle.std.proofs.Math.Nat.{mod-lt}
use Rattle.jx_tier1.specs.Places.{HasNine, HasFour}
use Rattle.jx_tier1.proofs.BitLemmas.{bit_mod, bit_shl, bit_shl_low, bit_shr, or_bit, and_bit}

-- a bit that a mask lets through, and one that it doesn't
on : (w place mask j k : ℕ) → bit_at mask j ≡ 1 → j + place ≡ k → bit_at (bit_and (w / 2 ^ place) mask) j ≡ bit_at w k
on w place mask j k e f =
    let b = bit_at-lt w k in
    and_bit (w / 2 ^ place) mask j (bit_at w k) 1 (bit_shr w place j ∙ ap (λ (n : ℕ). bit_at w n) f) e
    ∙ (let z : min (bit_at w k) 1 ≡ bit_at w k = omega arith in z)

off : (w place mask j : ℕ) → bit_at mask j ≡ 0 → bit_at (bit_and (w / 2 ^ place) mask) j ≡ 0
off w place mask j e =
    and_bit (w / 2 ^ place) mask j (bit_at (w / 2 ^ place) j) 0 refl e
    ∙ (let z : min (bit_at (w / 2 ^ place) j) 0 ≡ 0 = omega arith in z)

left_or : (a b i p : ℕ) → bit_at a i ≡ p → bit_at b i ≡ 0 → bit_at (bit_or a b) i ≡ p
left_or a b i p e f = or_bit a b i p 0 e f ∙ (let z : max p 0 ≡ p = omega arith in z)

right_or : (a b i p : ℕ) → bit_at a i ≡ 0 → bit_at b i ≡ p → bit_at (bit_or a b) i ≡ p
right_or a b i p e f = or_bit a b i 0 p e f ∙ (let z : max 0 p ≡ p = omega arith in z)

-- the table of first bits
low_bit : (w place j k : ℕ) → j < 9 → bit_at 29127 j ≡ 1 → bit_at 29127 (j + 9) ≡ 0 → j + place ≡ k
    → bit_at (bit_or (bit_and (w / 2 ^ place) 29127) (bit_and (w / 2 ^ place) 29127 / 512) % 512) j ≡ bit_at w k
low_bit w place j k l e f g =
    let y : ℕ = bit_and (w / 2 ^ place) 29127 in
    bit_mod (bit_or y (y / 512)) 9 j l
    ∙ left_or y (y / 512) j (bit_at w k) (on w place 29127 j k e g) (bit_shr y 9 j ∙ off w place 29127 (j + 9) f)

high_bit : (w place j k : ℕ) → j < 9 → bit_at 29127 j ≡ 0 → bit_at 29127 (j + 9) ≡ 1 → j + 9 + place ≡ k
    → bit_at (bit_or (bit_and (w / 2 ^ place) 29127) (bit_and (w / 2 ^ place) 29127 / 512) % 512) j ≡ bit_at w k
high_bit w place j k l e f g =
    let y : ℕ = bit_and (w / 2 ^ place) 29127 in
    bit_mod (bit_or y (y / 512)) 9 j l
    ∙ right_or y (y / 512) j (bit_at w k) (off w place 29127 j e) (bit_shr y 9 j ∙ on w place 29127 (j + 9) k f g)

pub nine_are : (w place : ℕ) → HasNine w place (bit_or (bit_and (w / 2 ^ place) 29127) (bit_and (w / 2 ^ place) 29127 / 512) % 512)
nine_are w place = record {
  few = mod-lt (bit_or (bit_and (w / 2 ^ place) 29127) (bit_and (w / 2 ^ place) 29127 / 512)) (omega arith);
  north_west = low_bit w place 0 place (omega arith) refl refl (omega arith);
  west = low_bit w place 1 (place + 1) (omega arith) refl refl (omega arith);
  south_west = low_bit w place 2 (place + 2) (omega arith) refl refl (omega arith);
  north_east = high_bit w place 3 (place + 12) (omega arith) refl refl (omega arith);
  east = high_bit w place 4 (place + 13) (omega arith) refl refl (omega arith);
  south_east = high_bit w place 5 (place + 14) (omega arith) refl refl (omega arith);
  north = low_bit w place 6 (place + 6) (omega arith) refl refl (omega arith);
  south = low_bit w place 8 (place + 8) (omega arith) refl refl (omega arith);
}

-- the table of signs
abbrev around : ℕ → ℕ → ℕ → ℕ
around w x place = bit_or (bit_and (w / 2 ^ place) 8514) (bit_and (x / 2 ^ place) 17028)

place_on : (w x place j k : ℕ) → bit_at 8514 j ≡ 1 → bit_at 17028 j ≡ 0 → j + place ≡ k → bit_at (around w x place) j ≡ bit_at w k
place_on w x place j k e f g =
    left_or (bit_and (w / 2 ^ place) 8514) (bit_and (x / 2 ^ place) 17028) j (bit_at w k) (on w place 8514 j k e g) (off x place 17028 j f)

sign_on : (w x place j k : ℕ) → bit_at 8514 j ≡ 0 → bit_at 17028 j ≡ 1 → j + place ≡ k → bit_at (around w x place) j ≡ bit_at x k
sign_on w x place j k e f g =
    right_or (bit_and (w / 2 ^ place) 8514) (bit_and (x / 2 ^ place) 17028) j (bit_at x k) (off w place 8514 j e) (on x place 17028 j k f g)

none_on : (w x place j : ℕ) → bit_at 8514 j ≡ 0 → bit_at 17028 j ≡ 0 → bit_at (around w x place) j ≡ 0
none_on w x place j e f =
    left_or (bit_and (w / 2 ^ place) 8514) (bit_and (x / 2 ^ place) 17028) j 0 (off w place 8514 j e) (off x place 17028 j f)

abbrev sign_number : ℕ → ℕ → ℕ → ℕ
sign_number w x place = bit_or (around w x place / 64) (around w x place * 8 % 18446744073709551616) % 512

-- a bit that comes from above, or from below
from_above : (w x place j p : ℕ) → j < 9 → bit_at (around w x place) (j + 6) ≡ p → bit_at (around w x place * 8 % 18446744073709551616) j ≡ 0
    → bit_at (sign_number w x place) j ≡ p
from_above w x place j p l e f =
    let v : ℕ = around w x place in
    bit_mod (bit_or (v / 64) (v * 8 % 18446744073709551616)) 9 j l
    ∙ left_or (v / 64) (v * 8 % 18446744073709551616) j p (bit_shr v 6 j ∙ e) f

from_below : (w x place j p : ℕ) → j < 9 → 3 ≤ j → bit_at (around w x place) (j + 6) ≡ 0 → bit_at (around w x place) (j - 3) ≡ p
    → bit_at (sign_number w x place) j ≡ p
from_below w x place j p l m e f =
    let v : ℕ = around w x place in
    bit_mod (bit_or (v / 64) (v * 8 % 18446744073709551616)) 9 j l
    ∙ right_or (v / 64) (v * 8 % 18446744073709551616) j p (bit_shr v 6 j ∙ e) (bit_shl v 3 j m (omega arith) ∙ f)

first_low : (w x place j : ℕ) → j < 3 → bit_at (around w x place * 8 % 18446744073709551616) j ≡ 0
first_low w x place j l = bit_shl_low (around w x place) 3 j l (omega arith)

next_low : (w x place j : ℕ) → 3 ≤ j → j < 9 → bit_at 8514 (j - 3) ≡ 0 → bit_at 17028 (j - 3) ≡ 0 → bit_at (around w x place * 8 % 18446744073709551616) j ≡ 0
next_low w x place j l m e f = bit_shl (around w x place) 3 j l (omega arith) ∙ none_on w x place (j - 3) e f

pub four_are : (w x place : ℕ) → HasFour w x place (bit_or (bit_or (bit_and (w / 2 ^ place) 8514) (bit_and (x / 2 ^ place) 17028) / 64)
    (bit_or (bit_and (w / 2 ^ place) 8514) (bit_and (x / 2 ^ place) 17028) * 8 % 18446744073709551616) % 512)
four_are w x place = record {
  few = mod-lt (bit_or (around w x place / 64) (around w x place * 8 % 18446744073709551616)) (omega arith);
  north = from_above w x place 0 (bit_at w (place + 6)) (omega arith) (place_on w x place 6 (place + 6) refl refl (omega arith)) (first_low w x place 0 (omega arith));
  north_sign = from_above w x place 1 (bit_at x (place + 7)) (omega arith) (sign_on w x place 7 (place + 7) refl refl (omega arith)) (first_low w x place 1 (omega arith));
  south = from_above w x place 2 (bit_at w (place + 8)) (omega arith) (place_on w x place 8 (place + 8) refl refl (omega arith)) (first_low w x place 2 (omega arith));
  south_sign = from_above w x place 3 (bit_at x (place + 9)) (omega arith) (sign_on w x place 9 (place + 9) refl refl (omega arith))
      (next_low w x place 3 (omega arith) (omega arith) refl refl);
  west = from_below w x place 4 (bit_at w (place + 1)) (omega arith) (omega arith) (none_on w x place 10 refl refl) (place_on w x place 1 (place + 1) refl refl (omega arith));
  west_sign = from_below w x place 5 (bit_at x (place + 2)) (omega arith) (omega arith) (none_on w x place 11 refl refl) (sign_on w x place 2 (place + 2) refl refl (omega arith));
  east = from_above w x place 7 (bit_at w (place + 13)) (omega arith) (place_on w x place 13 (place + 13) refl refl (omega arith))
      (next_low w x place 7 (omega arith) (omega arith) refl refl);
  east_sign = from_above w x place 8 (bit_at x (place + 14)) (omega arith) (sign_on w x place 14 (place + 14) refl refl (omega arith))
      (next_low w x place 8 (omega arith) (omega arith) refl refl);
}
