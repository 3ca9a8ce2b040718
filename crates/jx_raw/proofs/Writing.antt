-- Lemmas on the writer's registers, and on what is read back.
use Rattle.std.proofs.Common.{◌≡◌, ◌<◌, ◌≤◌, ◌+◌, ◌*◌, ◌/◌, ◌%◌, ◌^◌, ℕ, zero, suc, Bool, true, false, List, [], ◌∷◌, ◌++◌, refl, sym, add-one, arith, eqb, append_assoc}
use Rattle.std.proofs.lemmas.Nat.{shr-shr}
use Rattle.std.proofs.lemmas.List.{append-nil}
use Rattle.std.proofs.Math.Nat.{two-pow-succ}
use mir.Val.{bool_byte}
use Rattle.jx_coder_specs.specs.RawBits.{raw_width, raw_bits_after, raw_bits, bits_of}
use Rattle.jx_raw.specs.RawWriting.{AreStuffed, bits_written, IsBegun}
use Rattle.jx_raw.proofs.Reading.{room}
use Rattle.jx_base.specs.Markers.{last_after}
use Rattle.jx_base.proofs.Markers.{last_push}

abbrev pub one_if : Bool → ℕ
one_if bit = bool_byte bit

bit_again : (n : ℕ) (bit : Bool) → eqb ((n * 2 + one_if bit) % 2) 1 ≡ bit
bit_again n true = let e : (n * 2 + 1) % 2 ≡ 1 = omega arith in rw e refl
bit_again n false = let e : (n * 2 + 0) % 2 ≡ 0 = omega arith in rw e refl

half_again : (n : ℕ) (bit : Bool) → (n * 2 + one_if bit) / 2 ≡ n
half_again n true = omega arith
half_again n false = omega arith

pub bits_push : (count n : ℕ) (bit : Bool) → bits_of (suc count) (n * 2 + one_if bit) ≡ bits_of count n ++ bit ∷ []
bits_push zero n bit =
    let e : (n * 2 + one_if bit) / 2 ^ 0 ≡ n * 2 + one_if bit = omega arith in
    rw (e, bit_again n bit) refl
bits_push (suc count) n bit =
    let e : (n * 2 + one_if bit) / 2 ^ (suc count) ≡ n / 2 ^ count =
    let apart : suc count ≡ 1 + count = omega arith in
    rw (apart, ← shr-shr (n * 2 + one_if bit) 1 count, half_again n bit) refl in
    rw (e, bits_push count n bit) refl

bits_after_push : (before : ℕ) (bytes : List ℕ) (byte : ℕ) → raw_bits_after before (bytes ++ byte ∷ []) ≡ raw_bits_after before bytes ++ bits_of (raw_width (last_after before bytes)) byte
bits_after_push before [] byte = append-nil (bits_of (raw_width before) byte)
bits_after_push before (b ∷ rest) byte = rw (bits_after_push b rest byte) (sym (append_assoc (bits_of (raw_width before) b) (raw_bits_after b rest) (bits_of (raw_width (last_after b rest)) byte)))

stuffed_push : (before : ℕ) (bytes : List ℕ) (byte : ℕ) → AreStuffed before bytes → byte < 2 ^ raw_width (last_after before bytes) → AreStuffed before (bytes ++ byte ∷ [])
stuffed_push before [] byte h fits = (fits, tt)
stuffed_push before (b ∷ rest) byte h fits = (h.0, stuffed_push b rest byte h.1 fits)

doubled_fits : (count n : ℕ) (bit : Bool) → n < 2 ^ count → n * 2 + one_if bit < 2 ^ (suc count)
doubled_fits count n true fits = rw two-pow-succ (omega arith)
doubled_fits count n false fits = rw two-pow-succ (omega arith)

-- one more bit in the byte that is begun
pub begun : (bytes : List ℕ) (partial count width : ℕ) (bit : Bool) → count + 1 < width → IsBegun bytes partial count width → IsBegun bytes (partial * 2 + one_if bit) (count + 1) width
begun bytes partial count width bit more h =
    let fits : partial * 2 + one_if bit < 2 ^ (count + 1) = rw add-one (doubled_fits count partial bit h.fits) in
    record { width_is = h.width_is; room = more; fits = fits; stuffed = h.stuffed }

pub more_bits : (bytes : List ℕ) (partial count : ℕ) (bit : Bool) → bits_written bytes (partial * 2 + one_if bit) (count + 1) ≡ bits_written bytes partial count ++ bit ∷ []
more_bits bytes partial count bit =
    rw (add-one count, bits_push count partial bit) (sym (append_assoc (raw_bits bytes) (bits_of count partial) (bit ∷ [])))

-- the byte is whole
pub whole : (bytes : List ℕ) (partial count width : ℕ) (bit : Bool) → width ≤ count + 1 → IsBegun bytes partial count width →
    IsBegun (bytes ++ (partial * 2 + one_if bit) ∷ []) 0 0 (raw_width (partial * 2 + one_if bit))
whole bytes partial count width bit full h =
    let byte : ℕ = partial * 2 + one_if bit in
    let e : raw_width (last_after 0 bytes) ≡ suc count = omega (arith, h.width_is, h.room) in
    let fits : byte < 2 ^ raw_width (last_after 0 bytes) = rw e (doubled_fits count partial bit h.fits) in
    let w = room byte in
    record {
      width_is = rw (last_push 0 bytes byte) refl;
      room = omega arith;
      fits = omega arith;
      stuffed = stuffed_push 0 bytes byte h.stuffed fits;
    }

pub whole_bits : (bytes : List ℕ) (partial count width : ℕ) (bit : Bool) → width ≤ count + 1 → IsBegun bytes partial count width →
    bits_written (bytes ++ (partial * 2 + one_if bit) ∷ []) 0 0 ≡ bits_written bytes partial count ++ bit ∷ []
whole_bits bytes partial count width bit full h =
    let e : raw_width (last_after 0 bytes) ≡ suc count = omega (arith, h.width_is, h.room) in
    rw (bits_after_push 0 bytes (partial * 2 + one_if bit), e, bits_push count partial bit, append-nil (raw_bits bytes ++ (bits_of count partial ++ bit ∷ [])))
    (sym (append_assoc (raw_bits bytes) (bits_of count partial) (bit ∷ [])))
