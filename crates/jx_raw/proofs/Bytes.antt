-- Bits and the bytes that they make.
use Rattle.std.proofs.Common.{◌≡◌, ◌<◌, ◌≤◌, ◌+◌, ◌-◌, ◌*◌, ◌/◌, ◌%◌, ◌^◌, ℕ, zero, suc, Bool, true, false, cond, ◌⊎◌, inl, inr, List, [], ◌∷◌, ◌++◌, length, replicate, refl, arith, eqb}
use Rattle.std.proofs.lemmas.Nat.{pow_pos, pow-add, mod-pow-add, shl_below, shr_high, shr_split}
use Rattle.std.proofs.Math.Nat.{two-pow-succ, mod-eq_of_lt, mod-lt}
use Rattle.jx_coder_specs.specs.RawBits.{bits_of, number_of, byte_of}
use Rattle.jx_raw.proofs.Reading.{length-bits_of, room}

bit_weight : (q weight r : ℕ) → cond (eqb (q % 2) 1) weight 0 + r ≡ (q % 2 ^ 1) * weight + r
bit_weight q weight r =
    let two : (q % 2 ≡ 0) ⊎ (q % 2 ≡ 1) = grind arith in
    elim two [ inl e ↦ rw e (omega arith) | inr e ↦ rw e (omega arith) ]

pub number-bits_of : (width n : ℕ) → number_of (bits_of width n) ≡ n % 2 ^ width
number-bits_of zero n = omega arith
number-bits_of (suc width) n =
    let apart : suc width ≡ 1 + width = omega arith in
    rw (number-bits_of width n, length-bits_of width n, apart, mod-pow-add n 1 width) (bit_weight (n / 2 ^ width) (2 ^ width) (n % 2 ^ width))

pub number-below : (bits : List Bool) → number_of bits < 2 ^ length bits
number-below [] = omega arith
number-below (true ∷ bits) = let less = number-below bits in rw two-pow-succ (omega arith)
number-below (false ∷ bits) = let less = number-below bits in rw two-pow-succ (omega arith)

pub byte-bits_of : (width n : ℕ) → n < 2 ^ width → byte_of width (bits_of width n) ≡ n
byte-bits_of width n fits =
    let none : width - width ≡ 0 = omega arith in
    rw (length-bits_of width n, none, number-bits_of width n, mod-eq_of_lt fits) (omega arith)

pub byte-below : (width : ℕ) (bits : List Bool) → length bits ≤ width → byte_of width bits < 2 ^ width
byte-below width bits most =
    let e : length bits + (width - length bits) ≡ width = omega arith in
    let less : number_of bits * 2 ^ (width - length bits) < 2 ^ (length bits + (width - length bits)) = shl_below (number_of bits) (length bits) (width - length bits) (number-below bits) in
    rw e at less

high_part : (k width n : ℕ) → (k * 2 ^ width + n) / 2 ^ width ≡ k + n / 2 ^ width
high_part k width n =
    let some = pow_pos width in
    let low : n % 2 ^ width < 2 ^ width = mod-lt n some in
    let split : k * 2 ^ width + n ≡ (k + n / 2 ^ width) * 2 ^ width + n % 2 ^ width = grind (arith, shr_split n width) in
    rw split (shr_high (k + n / 2 ^ width) width (n % 2 ^ width) low)

bits_low : (width k n : ℕ) → bits_of width (k * 2 ^ width + n) ≡ bits_of width n
bits_low zero k n = refl
bits_low (suc width) k n =
    let whole : k * 2 ^ suc width + n ≡ (2 * k) * 2 ^ width + n = rw two-pow-succ (grind arith) in
    let high : ((2 * k) * 2 ^ width + n) / 2 ^ width ≡ 2 * k + n / 2 ^ width = high_part (2 * k) width n in
    let even : (2 * k + n / 2 ^ width) % 2 ≡ n / 2 ^ width % 2 = omega arith in
    rw (whole, high, even, bits_low width (2 * k) n) refl

zeros : (width : ℕ) → bits_of width 0 ≡ replicate width false
zeros zero = refl
zeros (suc width) = let none : 0 / 2 ^ width ≡ 0 = omega arith in rw (none, zeros width) refl

one_of : (bit : Bool) → eqb (cond bit 1 0 % 2) 1 ≡ bit
one_of true = refl
one_of false = refl

top_is : (bit : Bool) (room : ℕ) → cond bit room 0 ≡ cond bit 1 0 * room
top_is true room = omega arith
top_is false room = omega arith

-- a byte has its bits, and zeros as filling
pub bits-byte_of : (width : ℕ) (bits : List Bool) → length bits ≤ width → bits_of width (byte_of width bits) ≡ bits ++ replicate (width - length bits) false
bits-byte_of width [] most =
    let e : 0 * 2 ^ (width - 0) ≡ 0 = omega arith in
    let f : width - 0 ≡ width = omega arith in
    rw (e, f) (zeros width)
bits-byte_of zero (bit ∷ bits) most = absurd (omega arith)
bits-byte_of (suc width) (bit ∷ bits) most =
    let short : length bits ≤ width = omega arith in
    let fill : suc width - suc (length bits) ≡ width - length bits = omega arith in
    let apart : length bits + (width - length bits) ≡ width = omega arith in
    let room : 2 ^ length bits * 2 ^ (width - length bits) ≡ 2 ^ width = rw (← pow-add 2 (length bits) (width - length bits), apart) refl in
    let parts : (cond bit (2 ^ length bits) 0 + number_of bits) * 2 ^ (width - length bits) ≡ cond bit 1 0 * 2 ^ width + byte_of width bits =
    rw (top_is bit (2 ^ length bits), ← room) (grind arith) in
    let below : byte_of width bits < 2 ^ width = byte-below width bits short in
    rw (fill, parts, shr_high (cond bit 1 0) width (byte_of width bits) below, one_of bit, bits_low width (cond bit 1 0) (byte_of width bits), bits-byte_of width bits short) refl
