-- The bits of packet headers (ITU-T T.800, B.10.1).
use Rattle.std.specs.Prelude.{◌≡◌, ◌≢◌, ◌<◌, ◌≤◌, replicate, slice_index, ℕ, zero, suc, ◌+◌, ◌-◌, ◌/◌, ◌%◌, ◌^◌, ◌==◌, nat_le, Bool, true, false, ◌&&◌, List, [], ◌∷◌, ◌++◌, length, take, drop, if◌then◌else◌, Option, Some, None, Result, Ok, Err}
use Rattle.jx_tagtree.specs.declared.BitFault.{BitFault}
use Rattle.jx_tagtree.specs.declared.BitFault.TheVariants.{Ended, Stuffed}
use Rattle.jx_base.specs.Markers.{last_after}

-- the bits of some bytes, and the fault that stands after them
pub record Bits : Type 0 where
  pub bits : List Bool
  pub fault : BitFault

-- how many bits the byte after a byte has: its top bit is stuffed after FF
abbrev pub room : ℕ → ℕ
room before = if before == 255 then 7 else 8

-- whether the bit that is stuffed into a byte after FF is 1
abbrev pub is_stuffed : ℕ → ℕ → Bool
is_stuffed before byte = (before == 255) && nat_le 128 byte

-- the low n bits of a byte, the highest first
abbrev pub low_bits : ℕ → ℕ → List Bool
low_bits zero byte = []
low_bits (suc n) byte = (byte / 2 ^ n % 2 == 1) ∷ low_bits n byte

abbrev pub before_all : List Bool → Bits → Bits
before_all front behind = record { bits = front ++ behind.bits; fault = behind.fault }

-- no bit comes after a stuffed 1
abbrev pub none_after_stuffed : Bits
none_after_stuffed = record { bits = []; fault = Stuffed }

-- the bits of the bytes that stand after a byte
abbrev pub bits_after : ℕ → List ℕ → Bits
bits_after before [] = record { bits = []; fault = Ended }
bits_after before (byte ∷ bytes) =
    if is_stuffed before byte then none_after_stuffed
    else before_all (low_bits (room before) byte) (bits_after byte bytes)

-- the bits of a header's bytes without the stuffed ones
abbrev pub bits_of : List ℕ → Bits
bits_of bytes = bits_after 0 bytes

-- how many bytes have the first n bits of the bytes that stand after a byte
abbrev pub bytes_for : ℕ → List ℕ → ℕ → ℕ
bytes_for before bytes zero = 0
bytes_for before [] (suc n) = 0
bytes_for before (byte ∷ bytes) (suc n) = suc (bytes_for byte bytes (suc n - room before))

-- A reader: its bytes, how many of their bits it has given, and the fault that it has answered.
pub record Reading : Type 0 where
  pub bytes : List ℕ
  pub taken : ℕ
  pub refused : Option BitFault

abbrev pub start_of : List ℕ → Reading
start_of bytes = record { bytes = bytes; taken = 0; refused = None }

-- the bits that it has not given
abbrev pub to_come : Reading → List Bool
to_come r = drop r.taken (bits_of r.bytes).bits

-- the fault after its last bit
abbrev pub fault_of : Reading → BitFault
fault_of r = (bits_of r.bytes).fault

-- it has given n more bits
abbrev pub advance : Reading → ℕ → Reading
advance r n = record r { taken = r.taken + n }

-- it was asked for a bit that is not there
abbrev pub refuse : Reading → BitFault → Reading
refuse r fault = record r { refused = Some fault }

-- it has given every bit, and was asked for one more
abbrev pub exhausted : Reading → Reading
exhausted r = refuse (advance r (length (to_come r))) (fault_of r)

-- a reader has given some bits
abbrev pub Took : Reading → Reading → Type 0
Took from to = (given : List Bool) × (to_come from ≡ given ++ to_come to) × (to ≡ advance from (length given))

-- the byte after a last FF, whose top bit is stuffed: n bytes stand before it
abbrev pub past_last_ff : ℕ → List ℕ → Result ℕ BitFault
past_last_ff n [] = Err Ended
past_last_ff n (byte ∷ bytes) = if nat_le 128 byte then Err Stuffed else Ok (n + 1)

-- Where a header of the first n bits ends: after the byte with the last of them, and where that is FF, after the next.
abbrev pub end_after : List ℕ → ℕ → Result ℕ BitFault
end_after bytes n =
    let used = bytes_for 0 bytes n in
    if last_after 0 (take used bytes) == 255 then past_last_ff used (drop used bytes) else Ok used

-- a fault that was answered is answered again
abbrev pub end_unless : Option BitFault → Result ℕ BitFault → Result ℕ BitFault
end_unless None end = end
end_unless (Some fault) end = Err fault

-- how many bytes a reader has used, or its fault
abbrev pub end_of : Reading → Result ℕ BitFault
end_of r = end_unless r.refused (end_after r.bytes r.taken)

-- the number of n bits whose first are those of a list, and the others 0
abbrev pub number_of : ℕ → List Bool → ℕ
number_of zero bits = 0
number_of (suc n) [] = 0
number_of (suc n) (true ∷ bits) = 2 ^ n + number_of n bits
number_of (suc n) (false ∷ bits) = number_of n bits

-- The bytes of some bits that stand after a byte: each byte takes as many bits as it has room for, the
-- last is filled with 0, and a last byte FF is followed by 00. More fuel than bits is enough.
abbrev pub bytes_from : ℕ → ℕ → List Bool → List ℕ
bytes_from zero before bits = []
bytes_from (suc fuel) before [] = if before == 255 then 0 ∷ [] else []
bytes_from (suc fuel) before (bit ∷ bits) =
    number_of (room before) (bit ∷ bits) ∷ bytes_from fuel (number_of (room before) (bit ∷ bits)) (drop (room before) (bit ∷ bits))

-- the one header of some bits
abbrev pub bytes_of : List Bool → List ℕ
bytes_of bits = bytes_from (suc (length bits)) 0 bits

-- What the bytes of some bits are, after a byte: these bits, then fewer than eight zeros, no stuffed bit 1, no FF at the
-- end, and nothing but bytes.
pub record IsWritten (before : ℕ) (bits : List Bool) (bytes : List ℕ) : Type 0 where
  pub filling : ℕ
  pub few : filling < 8
  pub are_bits : (bits_after before bytes).bits ≡ bits ++ replicate filling false
  pub clean : (bits_after before bytes).fault ≡ Ended
  pub last : last_after before bytes ≢ 255
  pub are_bytes : (i : ℕ) → slice_index bytes i < 256

-- so is a header
abbrev pub IsHeader : List Bool → List ℕ → Type 0
IsHeader bits bytes = IsWritten 0 bits bytes

-- a byte after FF is below 80 in hexadecimal
abbrev pub StuffedAfterFf : List ℕ → Type 0
StuffedAfterFf bytes = (i : ℕ) → slice_index bytes i ≡ 255 → slice_index bytes (i + 1) < 128

-- What a reader finds where a header of some bits stands, whatever follows it: these bits first, and behind them the
-- header's end.
pub record ReadsBack (bits : List Bool) (rest : List ℕ) : Type 0 where
  pub more : List Bool
  pub first : to_come (start_of (bytes_of bits ++ rest)) ≡ bits ++ more
  pub end : end_after (bytes_of bits ++ rest) (length bits) ≡ Ok (length (bytes_of bits))

-- Where a header of the first n bits ends: the bytes up to there have these bits and then only filling, fewer than eight
-- bits, and where the byte before the last is FF, which asks for one more, fewer than fifteen; no stuffed bit is 1, and the
-- last byte isn't FF.
pub record EndsAt (bytes : List ℕ) (n used : ℕ) : Type 0 where
  pub within : used ≤ length bytes
  pub filling : List Bool
  pub few : length filling < (if last_after 0 (take (used - 1) bytes) == 255 then 15 else 8)
  pub are_bits : (bits_of (take used bytes)).bits ≡ take n (bits_of bytes).bits ++ filling
  pub clean : (bits_of (take used bytes)).fault ≡ Ended
  pub last : last_after 0 (take used bytes) ≢ 255
