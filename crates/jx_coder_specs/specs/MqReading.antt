-- What the arithmetic decoder makes of a segment: ITU-T T.800, Annex C.3.
use Rattle.std.specs.Prelude.{ℕ, zero, suc, ◌+◌, ◌-◌, ◌*◌, ◌/◌, ◌%◌, min, ◌==◌, nat_lt, nat_le, Bool, not, List, [], ◌∷◌, length, slice_index_or, if◌then◌else◌}
use Rattle.jx_coder_specs.specs.MqTable.{MqContexts, mq_fresh, mq_row_of, mq_mps, mq_adapted}

-- The registers A, C (of 32 bits) and CT, the place of the current byte B, and how many bytes were read or compared
pub record MqReader : Type 0 where
  pub a : ℕ
  pub c : ℕ
  pub ct : ℕ
  pub place : ℕ
  pub looked : ℕ

-- the bytes of a segment, and FF for ever after
abbrev pub mq_byte : List ℕ → ℕ → ℕ
mq_byte segment place = slice_index_or segment place 255

-- BYTEIN: an FF before a byte above 8F is a marker, which is never passed
abbrev pub mq_byte_in : List ℕ → MqReader → MqReader
mq_byte_in segment r =
    let next = mq_byte segment (r.place + 1) in
    if mq_byte segment r.place == 255 then
    (if nat_lt 143 next then record r { c = (r.c + 65280) % 4294967296; ct = 8; looked = r.place + 2 }
    else record r { c = (r.c + next * 512) % 4294967296; ct = 7; place = r.place + 1; looked = r.place + 2 })
    else record r { c = (r.c + next * 256) % 4294967296; ct = 8; place = r.place + 1; looked = r.place + 2 }

-- INITDEC
abbrev pub mq_reader : List ℕ → MqReader
mq_reader segment =
    let r = mq_byte_in segment (record { a = 32768; c = mq_byte segment 0 * 65536; ct = 0; place = 0; looked = 1 }) in
    record r { c = r.c * 128 % 4294967296; ct = r.ct - 7 }

-- one shift of RENORMD
abbrev pub mq_shifted_in : List ℕ → MqReader → MqReader
mq_shifted_in segment r =
    let fed = (if r.ct == 0 then mq_byte_in segment r else r) in
    record fed { a = 2 * fed.a; c = 2 * fed.c % 4294967296; ct = fed.ct - 1 }

-- RENORMD: shifts until A has bit 15, at most n times
unfoldable pub mq_refilled : List ℕ → ℕ → MqReader → MqReader
mq_refilled segment zero r = r
mq_refilled segment (suc n) r = if nat_le 32768 r.a then r else mq_refilled segment n (mq_shifted_in segment r)

-- whether the code lies in the lower part of the interval, whose width is Qe
abbrev pub mq_is_low : MqReader → ℕ → Bool
mq_is_low r qe = nat_lt (r.c / 65536) qe

-- DECODE: whether the decision is the more probable symbol, the parts being exchanged where the lower one is the wider
abbrev pub mq_reads_mps : MqReader → ℕ → Bool
mq_reads_mps r qe = if mq_is_low r qe then nat_lt (r.a - qe) qe else not (nat_lt (r.a - qe) qe)

-- the part of the interval in which the code lies
abbrev pub mq_chosen : MqReader → ℕ → MqReader
mq_chosen r qe = if mq_is_low r qe then record r { a = qe } else record r { a = r.a - qe; c = r.c - qe * 65536 }

-- the registers after a decision
abbrev pub mq_read : List ℕ → MqReader → ℕ → MqReader
mq_read segment r qe = mq_refilled segment 15 (mq_chosen r qe)

-- what is asked of the decoder: a decision under a label, or that the contexts start anew
pub data MqAsked : Type 0 where
  Under : ℕ → MqAsked
  Anew : MqAsked

-- the decisions of a list, the contexts and the registers after
pub record MqDecisions : Type 0 where
  pub bits : List Bool
  pub contexts : MqContexts
  pub reader : MqReader

abbrev pub mq_bit : MqReader → MqContexts → ℕ → Bool
mq_bit r x label = if mq_reads_mps r (mq_row_of x label).qe then mq_mps x label else not (mq_mps x label)

abbrev pub mq_after : MqReader → MqContexts → ℕ → MqContexts
mq_after r x label = mq_adapted r.a x label (mq_reads_mps r (mq_row_of x label).qe)

abbrev pub mq_more : Bool → MqDecisions → MqDecisions
mq_more bit d = record d { bits = bit ∷ d.bits }

abbrev pub mq_decisions_from : List ℕ → MqReader → MqContexts → List MqAsked → MqDecisions
mq_decisions_from segment r x [] = record { bits = []; contexts = x; reader = r }
mq_decisions_from segment r x (Under label ∷ asked) =
    mq_more (mq_bit r x label) (mq_decisions_from segment (mq_read segment r (mq_row_of x label).qe) (mq_after r x label) asked)
mq_decisions_from segment r x (Anew ∷ asked) = mq_decisions_from segment r mq_fresh asked

-- the decisions that the decoder makes of a segment, from some contexts
abbrev pub mq_decisions : List ℕ → MqContexts → List MqAsked → MqDecisions
mq_decisions segment x asked = mq_decisions_from segment (mq_reader segment) x asked

-- how many bytes of the segment were read or compared for them
abbrev pub mq_looked : List ℕ → MqContexts → List MqAsked → ℕ
mq_looked segment x asked = min (mq_decisions segment x asked).reader.looked (length segment)
