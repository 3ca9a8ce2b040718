-- How many bytes raw bits make.
use Rattle.std.proofs.Common.{◌≡◌, ◌≤◌, ◌+◌, ◌-◌, ◌*◌, ◌/◌, ◌^◌, ℕ, zero, suc, Bool, true, false, inl, inr, List, [], ◌∷◌, length, take, drop, refl, arith, eqb, ◌==◌, if◌then◌else◌, length-drop}
use Rattle.std.proofs.lemmas.Bool.Decides.{nat_tests}
use Rattle.std.proofs.lemmas.Bool.{cases_lt}
use Rattle.std.proofs.lemmas.List.{take_all, drop_all}
use Rattle.jx_coder_specs.specs.RawBits.{raw_width, byte_of, number_of, raw_write_after, raw_write}
use Rattle.jx_raw.proofs.Reading.{room}
use Rattle.jx_raw.proofs.Back.{even_not_ff}

-- a byte 00 follows a last FF
abbrev extra : ℕ → ℕ
extra before = if before == 255 then 1 else 0

extra_most : (before : ℕ) → extra before ≤ 1
extra_most before = grind (arith, nat_tests)

extra_width : (before : ℕ) → raw_width before + extra before ≡ 8
extra_width before = grind (arith, nat_tests)

at_end : (is_ff : Bool) → length {A = ℕ} (if is_ff then 0 ∷ [] else []) ≤ (if is_ff then 1 else 0)
at_end true = omega arith
at_end false = omega arith

nothing_more : (n before : ℕ) → length (raw_write_after n before []) ≤ extra before
nothing_more zero before = omega arith
nothing_more (suc n) before = at_end (eqb before 255)

-- at seven bits in a byte there is room for a byte 00 too
most_after : (n before : ℕ) (bits : List Bool) → 7 * length (raw_write_after n before bits) ≤ length bits + 6 + extra before
most_after zero before bits = omega arith
most_after (suc n) before [] =
    let e = extra_most before in
    let none = nothing_more (suc n) before in
    omega arith
most_after (suc n) before (bit ∷ bits) =
    let byte : ℕ = byte_of (raw_width before) (take (raw_width before) (bit ∷ bits)) in
    let w = room before in
    let e = extra_width before in
    let one = extra_most byte in
    elim (cases_lt (length (bit ∷ bits)) (raw_width before)) [
      | inl less ↦
          let last : byte ≡ number_of (bit ∷ bits) * 2 ^ (raw_width before - length (bit ∷ bits)) = rw (take_all (raw_width before) (bit ∷ bits) (omega arith)) refl in
          let even : eqb byte 255 ≡ false = rw last (even_not_ff (number_of (bit ∷ bits)) (raw_width before - length (bit ∷ bits)) (omega arith)) in
          let zero_more : extra byte ≡ 0 = rw even refl in
          let none : drop (raw_width before) (bit ∷ bits) ≡ [] = drop_all (raw_width before) (bit ∷ bits) (omega arith) in
          let more : length (raw_write_after n byte []) ≤ extra byte = nothing_more n byte in
          rw none (omega arith)
      | inr more ↦
          let left : length (drop (raw_width before) (bit ∷ bits)) ≡ length (bit ∷ bits) - raw_width before = length-drop (raw_width before) (bit ∷ bits) in
          let rest = most_after n byte (drop (raw_width before) (bit ∷ bits)) in
          omega arith
    ]

pub short_segment : (bits : List Bool) → length (raw_write bits) ≤ (length bits + 6) / 7
short_segment bits = let most : 7 * length (raw_write bits) ≤ length bits + 6 + 0 = most_after (suc (length bits)) 0 bits in omega arith
