-- How many bytes a reader of a finished segment has looked at is told by the writer.
use Rattle.std.proofs.Common.{◌≡◌, ◌<◌, ◌≤◌, ◌+◌, ◌-◌, ℕ, zero, suc, Bool, List, [], ◌∷◌, ◌++◌, length, take, drop, get_or, refl, ap, sym, ◌∙◌, add-one, arith, inl, inr, length-append, length-drop}
use Rattle.std.proofs.lemmas.Bool.{cases_lt}
use Rattle.std.proofs.lemmas.List.{take-append-le, drop-append-le, drop_more, drop_all}
use Rattle.jx_base.specs.Markers.{last_after}
use Rattle.jx_coder_specs.specs.RawBits.{raw_width, raw_bits_after, raw_bits, bits_of, byte_of, raw_write_after, raw_write, raw_looked_after, raw_looked, looked_from}
use Rattle.jx_raw.specs.RawWriting.{bits_written, IsBegun}
use Rattle.jx_raw.proofs.Reading.{length-bits_of, room, looked_none}
use Rattle.jx_raw.proofs.Looking.{looked_some}
use Rattle.jx_raw.proofs.Back.{shorter, written_more, tail_of}

-- bits of one byte at most
one_byte : (n before : ℕ) (bits : List Bool) (k : ℕ) → 0 < length bits → 0 < k → k ≤ raw_width before → raw_looked_after before (raw_write_after (suc n) before bits) k ≡ 1
one_byte n before bits k some more most =
    let byte : ℕ = byte_of (raw_width before) (take (raw_width before) bits) in
    let rest : List ℕ = raw_write_after n byte (drop (raw_width before) bits) in
    let none : k - raw_width before ≡ 0 = omega arith in
    rw (written_more n before bits some, looked_some before byte rest k more, none, looked_none byte rest) refl

told_after : (n m before : ℕ) (bits more : List Bool) → length bits < n → length (bits ++ more) < m →
    raw_looked_after before (raw_write_after m before (bits ++ more)) (length bits) ≡ raw_looked_after before (raw_write_after n before bits) (length bits)
told_after zero m before bits more p q = absurd (omega arith)
told_after (suc n) zero before bits more p q = absurd (omega arith)
told_after (suc n) (suc m) before [] more p q = looked_none before (raw_write_after (suc m) before more) ∙ sym (looked_none before (raw_write_after (suc n) before []))
told_after (suc n) (suc m) before (bit ∷ bits) more p q =
    let w = room before in
    let all : List Bool = bit ∷ bits in
    elim (cases_lt (length (bit ∷ bits)) (raw_width before)) [
      | inl less ↦ one_byte m before (bit ∷ (bits ++ more)) (length (bit ∷ bits)) (omega arith) (omega arith) (omega arith) ∙ sym (one_byte n before (bit ∷ bits) (length (bit ∷ bits)) (omega arith) (omega arith) (omega arith))
      | inr long ↦
          let front : take (raw_width before) ((bit ∷ bits) ++ more) ≡ take (raw_width before) (bit ∷ bits) = take-append-le (raw_width before) (bit ∷ bits) more long in
          let back : drop (raw_width before) ((bit ∷ bits) ++ more) ≡ drop (raw_width before) (bit ∷ bits) ++ more = drop-append-le (raw_width before) (bit ∷ bits) more long in
          let byte : ℕ = byte_of (raw_width before) (take (raw_width before) (bit ∷ bits)) in
          let few = shorter n before (bit ∷ bits) (omega arith) p in
          let left : length (drop (raw_width before) (bit ∷ bits)) ≡ length (bit ∷ bits) - raw_width before = length-drop (raw_width before) (bit ∷ bits) in
          let whole : length ((bit ∷ bits) ++ more) ≡ length (bit ∷ bits) + length more = length-append (bit ∷ bits) more in
          let both : length (drop (raw_width before) (bit ∷ bits) ++ more) < m = rw (length-append (drop (raw_width before) (bit ∷ bits)) more) (omega arith) in
          let rest : raw_looked_after byte (raw_write_after m byte (drop (raw_width before) (bit ∷ bits) ++ more)) (length (bit ∷ bits) - raw_width before) ≡ raw_looked_after byte (raw_write_after n byte (drop (raw_width before) (bit ∷ bits))) (length (bit ∷ bits) - raw_width before) =
          rw left at (told_after n m byte (drop (raw_width before) (bit ∷ bits)) more few both) in
          let one : raw_write_after (suc m) before ((bit ∷ bits) ++ more) ≡ byte ∷ raw_write_after m byte (drop (raw_width before) (bit ∷ bits) ++ more) =
          written_more m before ((bit ∷ bits) ++ more) (omega arith) ∙ rw (front, back) refl in
          ap (λ (s : List ℕ). raw_looked_after before s (length (bit ∷ bits))) one
          ∙ looked_some before byte (raw_write_after m byte (drop (raw_width before) (bit ∷ bits) ++ more)) (length (bit ∷ bits)) (omega arith)
          ∙ ap (λ (k : ℕ). 1 + k) rest
          ∙ sym (looked_some before byte (raw_write_after n byte (drop (raw_width before) (bit ∷ bits))) (length (bit ∷ bits)) (omega arith))
    ]

-- what was looked at for the first bits of a segment
pub told : (bits more : List Bool) → raw_looked (raw_write (bits ++ more)) (length bits) ≡ raw_looked (raw_write bits) (length bits)
told bits more = told_after (suc (length bits)) (suc (length (bits ++ more))) 0 bits more (omega arith) (omega arith)

-- whole bytes, and others behind them
whole_first : (before : ℕ) (bytes tail : List ℕ) (k : ℕ) → raw_looked_after before (bytes ++ tail) (length (raw_bits_after before bytes) + k) ≡ length bytes + raw_looked_after (last_after before bytes) tail k
whole_first before [] tail k = let e : 0 + k ≡ k = omega arith in rw e (omega arith)
whole_first before (byte ∷ rest) tail k =
    let w = room before in
    let whole : length (raw_bits_after before (byte ∷ rest)) ≡ raw_width before + length (raw_bits_after byte rest) = rw length-append (rw length-bits_of refl) in
    let left : length (raw_bits_after before (byte ∷ rest)) + k - raw_width before ≡ length (raw_bits_after byte rest) + k = omega arith in
    looked_some before byte (rest ++ tail) (length (raw_bits_after before (byte ∷ rest)) + k) (omega arith)
    ∙ ap (λ (n : ℕ). 1 + raw_looked_after byte (rest ++ tail) n) left
    ∙ ap (λ (n : ℕ). 1 + n) (whole_first byte rest tail k)
    ∙ (omega arith)

begun_length : (bytes : List ℕ) (partial count : ℕ) → length (bits_written bytes partial count) ≡ length (raw_bits bytes) + count
begun_length bytes partial count = length-append (raw_bits bytes) (bits_of count partial) ∙ ap (λ (n : ℕ). length (raw_bits bytes) + n) (length-bits_of count partial)

-- the bytes that are whole, and the one that is begun
pub looked_whole : (bytes : List ℕ) (partial count width : ℕ) → IsBegun bytes partial count width → count ≡ 0 →
    raw_looked (raw_write (bits_written bytes partial count)) (length (bits_written bytes partial count)) ≡ length bytes
looked_whole bytes partial count width h none =
    let last : ℕ = last_after 0 bytes in
    rw (tail_of bytes partial count width (suc count) h (omega arith), begun_length bytes partial count)
    (whole_first 0 bytes (raw_write_after (suc count) last (bits_of count partial)) count
    ∙ ap (λ (k : ℕ). length bytes + raw_looked_after last (raw_write_after (suc count) last (bits_of count partial)) k) none
    ∙ ap (λ (k : ℕ). length bytes + k) (looked_none last (raw_write_after (suc count) last (bits_of count partial)))
    ∙ (omega arith))

pub looked_begun : (bytes : List ℕ) (partial count width : ℕ) → IsBegun bytes partial count width → 0 < count →
    raw_looked (raw_write (bits_written bytes partial count)) (length (bits_written bytes partial count)) ≡ length bytes + 1
looked_begun bytes partial count width h some =
    let last : ℕ = last_after 0 bytes in
    let room_left = h.room in
    let width_is = h.width_is in
    rw (tail_of bytes partial count width (suc count) h (omega arith), begun_length bytes partial count)
    (whole_first 0 bytes (raw_write_after (suc count) last (bits_of count partial)) count
    ∙ ap (λ (k : ℕ). length bytes + k) (one_byte count last (bits_of count partial) count (rw length-bits_of some) some (omega arith)))

-- a byte counted
pub looked_on : (segment : List ℕ) (place left : ℕ) → place < length segment → 0 < left →
    looked_from segment place left ≡ looked_from segment (place + 1) (left - raw_width (get_or (0 ∷ segment) place 0))
looked_on segment place left within some =
    let before : ℕ = get_or (0 ∷ segment) place 0 in
    let byte : ℕ = get_or segment place 0 in
    let next : drop place segment ≡ byte ∷ drop (suc place) segment = rw add-one at (drop_more segment place 0 within) in
    rw (add-one place, next) (ap (λ (k : ℕ). place + k) (looked_some before byte (drop (suc place) segment) left some) ∙ (omega arith))

-- nothing is left to count
pub looked_done : (segment : List ℕ) (place left : ℕ) → left ≡ 0 → looked_from segment place left ≡ place
looked_done segment place left none =
    rw none (ap (λ (k : ℕ). place + k) (looked_none (get_or (0 ∷ segment) place 0) (drop place segment)) ∙ (omega arith))

pub looked_end : (segment : List ℕ) (place left : ℕ) → length segment ≤ place → looked_from segment place left ≡ place
looked_end segment place left past = rw (drop_all place segment past) (omega arith)
