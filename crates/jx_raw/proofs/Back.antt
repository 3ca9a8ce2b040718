-- What was written is read back.
use Rattle.std.proofs.Common.{◌≡◌, ◌≢◌, ◌<◌, ◌≤◌, ◌+◌, ◌-◌, ◌*◌, ◌%◌, ◌^◌, ℕ, zero, suc, Bool, true, false, inl, inr, List, [], ◌∷◌, ◌++◌, length, take, drop, replicate, refl, ap, sym, ◌∙◌, arith, eqb, if◌then◌else◌, ◌==◌, append_assoc, length-append, length-drop, length-take}
use Rattle.std.proofs.lemmas.Bool.Decides.{nat_tests}
use Rattle.std.proofs.lemmas.Bool.{cases_lt, cases_eq, ne_eqb}
use Rattle.std.proofs.lemmas.Nat.{shl_whole}
use Rattle.std.proofs.lemmas.List.{append-nil, take_at, drop_at, take_all, drop_all, take-append-drop}
use Rattle.std.proofs.Math.Nat.{two-pow-succ, mod-eq_of_lt}
use Rattle.jx_base.specs.Markers.{HasNoMarker, last_after}
use Rattle.jx_coder_specs.specs.RawBits.{raw_width, raw_bits_after, bits_of, raw_read, byte_of, raw_write_after, raw_write}
use Rattle.jx_raw.specs.RawWriting.{AreStuffed, bits_written, IsBegun}
use Rattle.jx_raw.proofs.Reading.{length-bits_of, room}
use Rattle.jx_raw.proofs.Bytes.{number-bits_of, byte-bits_of, byte-below, bits-byte_of}

-- some bits, and perhaps others
IsFront : List Bool → List Bool → Type 0
IsFront bits all = (more : List Bool) × (all ≡ bits ++ more)

pub shorter : (n before : ℕ) (bits : List Bool) → 0 < length bits → length bits < suc n → length (drop (raw_width before) bits) < n
shorter n before bits some less = let w = room before in rw (length-drop (raw_width before) bits) (omega arith)

pub written_more : (n before : ℕ) (bits : List Bool) → 0 < length bits →
    raw_write_after (suc n) before bits ≡
    byte_of (raw_width before) (take (raw_width before) bits) ∷ raw_write_after n (byte_of (raw_width before) (take (raw_width before) bits)) (drop (raw_width before) bits)
written_more n before [] some = absurd (omega arith)
written_more n before (bit ∷ bits) some = refl

enough : (n m before : ℕ) (bits : List Bool) → length bits < n → length bits < m → raw_write_after n before bits ≡ raw_write_after m before bits
enough zero m before bits p q = absurd (omega arith)
enough (suc n) zero before bits p q = absurd (omega arith)
enough (suc n) (suc m) before [] p q = refl
enough (suc n) (suc m) before (bit ∷ bits) p q =
    let byte : ℕ = byte_of (raw_width before) (take (raw_width before) (bit ∷ bits)) in
    ap (λ (rest : List ℕ). byte ∷ rest)
    (enough n m byte (drop (raw_width before) (bit ∷ bits)) (shorter n before (bit ∷ bits) (omega arith) p) (shorter m before (bit ∷ bits) (omega arith) q))

-- whole bytes are written as they are
pub written_whole : (n m before : ℕ) (bytes : List ℕ) (bits : List Bool) → AreStuffed before bytes → length (raw_bits_after before bytes ++ bits) < n → length bits < m →
    raw_write_after n before (raw_bits_after before bytes ++ bits) ≡ bytes ++ raw_write_after m (last_after before bytes) bits
written_whole n m before [] bits h p q = enough n m before bits p q
written_whole zero m before (byte ∷ rest) bits h p q = absurd (omega arith)
written_whole (suc n) m before (byte ∷ rest) bits h p q =
    let width : ℕ = raw_width before in
    let w = room before in
    let more : List Bool = raw_bits_after byte rest ++ bits in
    let long : length (bits_of (raw_width before) byte) ≡ raw_width before = length-bits_of (raw_width before) byte in
    let some : 0 < length (bits_of (raw_width before) byte ++ more) = rw (length-append, long) (omega arith) in
    let less : length more < n =
    let whole : length ((bits_of (raw_width before) byte ++ raw_bits_after byte rest) ++ bits) ≡ raw_width before + length more = rw (append_assoc, length-append, long) refl in
    omega arith in
    rw (
      append_assoc (bits_of (raw_width before) byte) (raw_bits_after byte rest) bits,
      written_more n before (bits_of (raw_width before) byte ++ more) some,
      take_at (bits_of (raw_width before) byte) more (raw_width before) long,
      drop_at (bits_of (raw_width before) byte) more (raw_width before) long,
      byte-bits_of (raw_width before) byte h.0,
    )
    (ap (λ (b : List ℕ). byte ∷ b) (written_whole n m byte rest bits h.1 less q))

last_bits : (n before : ℕ) (bits : List Bool) → length bits ≤ raw_width before → 0 < length bits → length bits < suc n →
    raw_write_after (suc n) before bits ≡ byte_of (raw_width before) bits ∷ raw_write_after n (byte_of (raw_width before) bits) []
last_bits n before bits short some less =
    rw (written_more n before bits some, take_all (raw_width before) bits short, drop_all (raw_width before) bits short) refl

-- the tail that stands after whole bytes
not_ff : (n : ℕ) → eqb (2 * n) 255 ≡ false
not_ff n = grind (arith, nat_tests)

pub tail_of : (bytes : List ℕ) (partial count width m : ℕ) → IsBegun bytes partial count width → count < m →
    raw_write (bits_written bytes partial count) ≡ bytes ++ raw_write_after m (last_after 0 bytes) (bits_of count partial)
tail_of bytes partial count width m h less =
    let short : length (bits_of count partial) < m = rw length-bits_of less in
    written_whole (suc (length (bits_written bytes partial count))) m 0 bytes (bits_of count partial) h.stuffed (omega arith) short

filled : (partial count width : ℕ) → partial < 2 ^ count → byte_of width (bits_of count partial) ≡ partial * 2 ^ (width - count)
filled partial count width fits = rw (number-bits_of count partial, length-bits_of count partial, mod-eq_of_lt fits) refl

pub even_not_ff : (partial k : ℕ) → 0 < k → eqb (partial * 2 ^ k) 255 ≡ false
even_not_ff partial zero some = absurd (omega arith)
even_not_ff partial (suc k) some =
    let twice : partial * 2 ^ suc k ≡ 2 * (partial * 2 ^ k) = rw two-pow-succ (grind arith) in
    rw twice (not_ff (partial * 2 ^ k))

pub shifted_whole : (bytes : List ℕ) (partial count width : ℕ) → IsBegun bytes partial count width → (partial * 2 ^ (width - count)) % 256 ≡ partial * 2 ^ (width - count)
shifted_whole bytes partial count width h =
    let w = room (last_after 0 bytes) in
    let room_left = h.room in
    let most : width ≤ 8 = omega (arith, h.width_is) in
    shl_whole partial count (width - count) 8 h.fits (omega arith)

-- what `finish` adds to whole bytes
pub finished_begun : (bytes : List ℕ) (partial count width : ℕ) → IsBegun bytes partial count width → 0 < count →
    raw_write (bits_written bytes partial count) ≡ bytes ++ (partial * 2 ^ (width - count)) ∷ []
finished_begun bytes partial count width h some =
    let last : ℕ = last_after 0 bytes in
    let short : length (bits_of count partial) ≤ raw_width (last_after 0 bytes) = rw length-bits_of (omega (arith, h.width_is, h.room)) in
    let room_left = h.room in
    rw (
      tail_of bytes partial count width (suc (suc count)) h (omega arith),
      last_bits (suc count) (last_after 0 bytes) (bits_of count partial) short (rw length-bits_of some) (rw length-bits_of (omega arith)),
      filled partial count (raw_width (last_after 0 bytes)) h.fits,
      ← h.width_is,
      even_not_ff partial (width - count) (omega arith),
    ) refl

is_ff : (before : ℕ) → raw_width before ≡ 7 → eqb before 255 ≡ true
is_ff before seven = grind (arith, nat_tests)

isnt_ff : (before : ℕ) → raw_width before ≢ 7 → eqb before 255 ≡ false
isnt_ff before eight = grind (arith, nat_tests)

pub finished_stuffed : (bytes : List ℕ) (partial count width : ℕ) → IsBegun bytes partial count width → count ≡ 0 → width ≡ 7 →
    raw_write (bits_written bytes partial count) ≡ bytes ++ 0 ∷ []
finished_stuffed bytes partial count width h none seven =
    rw (tail_of bytes partial count width (suc (suc count)) h (omega arith), none, is_ff (last_after 0 bytes) (sym h.width_is ∙ seven)) refl

pub finished_plain : (bytes : List ℕ) (partial count width : ℕ) → IsBegun bytes partial count width → count ≡ 0 → width ≢ 7 →
    raw_write (bits_written bytes partial count) ≡ bytes
finished_plain bytes partial count width h none eight =
    rw (tail_of bytes partial count width (suc (suc count)) h (omega arith), none, isnt_ff (last_after 0 bytes) (λ e. eight (h.width_is ∙ e))) (append-nil bytes)

-- the first byte's bits and the rest begin with all bits
joined : (width : ℕ) (bits more : List Bool) → IsFront bits ((take width bits ++ replicate (width - length (take width bits)) false) ++ (drop width bits ++ more))
unfolding IsFront
joined width bits more =
    elim (cases_lt (length bits) width) [
      | inl short ↦
          let most : length bits ≤ width = omega arith in (
            replicate (width - length bits) false ++ more,
            rw (take_all width bits most, drop_all width bits most) (append_assoc bits (replicate (width - length bits) false) more),
          )
      | inr long ↦
          let whole : length (take width bits) ≡ width = rw length-take (omega arith) in
          let none : width - width ≡ 0 = omega arith in
          (more, rw (whole, none, append-nil (take width bits), ← append_assoc (take width bits) (drop width bits) more, take-append-drop width bits) refl)
    ]

back : (n before : ℕ) (bits : List Bool) → length bits < n → IsFront bits (raw_bits_after before (raw_write_after n before bits))
unfolding IsFront
back zero before bits less = absurd (omega arith)
back (suc n) before [] less = (raw_bits_after before (raw_write_after (suc n) before []), refl)
back (suc n) before (bit ∷ bits) less =
    let byte : ℕ = byte_of (raw_width before) (take (raw_width before) (bit ∷ bits)) in
    let short : length (take (raw_width before) (bit ∷ bits)) ≤ raw_width before = rw length-take (omega arith) in
    let rest = back n byte (drop (raw_width before) (bit ∷ bits)) (shorter n before (bit ∷ bits) (omega arith) less) in
    let front = joined (raw_width before) (bit ∷ bits) rest.0 in
    (front.0, rw (bits-byte_of (raw_width before) (take (raw_width before) (bit ∷ bits)) short, rest.1) front.1)

-- what is read of written bits
pub read_back : (bits : List Bool) → raw_read (raw_write bits) (length bits) ≡ bits
unfolding IsFront
read_back bits =
    let front = back (suc (length bits)) 0 bits (omega arith) in
    rw (front.1, append_assoc bits front.0 (replicate (length bits) true)) (take_at bits (front.0 ++ replicate (length bits) true) (length bits) refl)

seven_bits : (width byte : ℕ) → width ≡ 7 → byte < 2 ^ width → byte ≤ 143
seven_bits width byte seven below = let less : byte < 2 ^ 7 = rw seven at below in omega arith

last_marker : (before : ℕ) → HasNoMarker before (if before == 255 then 0 ∷ [] else [])
last_marker before = elim (cases_eq before 255) [ inl e ↦ rw e ((λ _. omega arith), (λ h. omega arith)) | inr ne ↦ rw (ne_eqb before 255 ne) ne ]

no_marker : (n before : ℕ) (bits : List Bool) → length bits < n → HasNoMarker before (raw_write_after n before bits)
no_marker zero before bits less = absurd (omega arith)
no_marker (suc n) before [] less = last_marker before
no_marker (suc n) before (bit ∷ bits) less =
    let byte : ℕ = byte_of (raw_width before) (take (raw_width before) (bit ∷ bits)) in
    let short : length (take (raw_width before) (bit ∷ bits)) ≤ raw_width before = rw length-take (omega arith) in
    let below : byte < 2 ^ raw_width before = byte-below (raw_width before) (take (raw_width before) (bit ∷ bits)) short in
    let seven : before ≡ 255 → byte ≤ 143 = λ e. seven_bits (raw_width before) byte (rw e refl) below in
    (seven, no_marker n byte (drop (raw_width before) (bit ∷ bits)) (shorter n before (bit ∷ bits) (omega arith) less))

pub written_no_marker : (bits : List Bool) → HasNoMarker 0 (raw_write bits)
written_no_marker bits = no_marker (suc (length bits)) 0 bits (omega arith)
