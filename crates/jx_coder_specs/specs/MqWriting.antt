-- The segment that the arithmetic encoder makes of decisions: ITU-T T.800, Annex C.2.
use Rattle.std.specs.Prelude.{ℕ, zero, suc, ◌+◌, ◌-◌, ◌*◌, ◌/◌, ◌%◌, ◌^◌, ◌==◌, nat_lt, nat_le, Bool, not, List, [], ◌∷◌, drop, reverse, if◌then◌else◌}
use Rattle.jx_coder_specs.specs.MqTable.{MqContexts, mq_fresh, mq_row_of, mq_mps, mq_adapted}
use Rattle.jx_coder_specs.specs.MqReading.{MqAsked, Under, Anew, mq_decisions}

-- The registers A, C and CT, and the bytes so far, the newest (B) first; the oldest is the byte 0 before the first
pub record MqWriter : Type 0 where
  pub a : ℕ
  pub c : ℕ
  pub ct : ℕ
  pub bytes : List ℕ

-- INITENC
abbrev pub mq_writer : MqWriter
mq_writer = record { a = 32768; c = 0; ct = 12; bytes = 0 ∷ [] }

abbrev pub mq_newest : List ℕ → ℕ
mq_newest [] = 0
mq_newest (byte ∷ older) = byte

-- the carry: one more in the newest byte
abbrev pub mq_raised : List ℕ → List ℕ
mq_raised [] = []
mq_raised (byte ∷ older) = (byte + 1) ∷ older

abbrev pub mq_plain : MqWriter → MqWriter
mq_plain w = record w { c = w.c % 524288; ct = 8; bytes = w.c / 524288 ∷ w.bytes }

-- a byte after FF has seven bits, and room for a carry above them
abbrev pub mq_stuffed : MqWriter → MqWriter
mq_stuffed w = record w { c = w.c % 1048576; ct = 7; bytes = w.c / 1048576 ∷ w.bytes }

abbrev pub mq_carried : MqWriter → MqWriter
mq_carried w = record w { c = w.c - 134217728; bytes = mq_raised w.bytes }

abbrev pub mq_by_newest : MqWriter → MqWriter
mq_by_newest w = if mq_newest w.bytes == 255 then mq_stuffed w else mq_plain w

-- BYTEOUT
abbrev pub mq_byte_out : MqWriter → MqWriter
mq_byte_out w =
    if mq_newest w.bytes == 255 then mq_stuffed w
    else if nat_lt w.c 134217728 then mq_plain w
    else mq_by_newest (mq_carried w)

-- one shift of RENORME
abbrev pub mq_shifted : MqWriter → MqWriter
mq_shifted w =
    let moved = record w { a = 2 * w.a; c = 2 * w.c; ct = w.ct - 1 } in
    if w.ct - 1 == 0 then mq_byte_out moved else moved

-- RENORME: shifts until A has bit 15, at most n times
unfoldable pub mq_renormalized : ℕ → MqWriter → MqWriter
mq_renormalized zero w = w
mq_renormalized (suc n) w = if nat_le 32768 w.a then w else mq_renormalized n (mq_shifted w)

-- the lower part of the interval, whose width is Qe, and the upper one
abbrev pub mq_lower : MqWriter → ℕ → MqWriter
mq_lower w qe = record w { a = qe }

abbrev pub mq_upper : MqWriter → ℕ → MqWriter
mq_upper w qe = record w { a = w.a - qe; c = w.c + qe }

-- CODEMPS and CODELPS: the parts are exchanged where the lower one is the wider
abbrev pub mq_part : MqWriter → ℕ → Bool → MqWriter
mq_part w qe is_mps =
    if is_mps then (if nat_lt (w.a - qe) qe then mq_lower w qe else mq_upper w qe)
    else (if nat_lt (w.a - qe) qe then mq_upper w qe else mq_lower w qe)

-- the registers after a decision
abbrev pub mq_written : MqWriter → ℕ → Bool → MqWriter
mq_written w qe is_mps = mq_renormalized 15 (mq_part w qe is_mps)

-- SETBITS: the last number below C + A whose low fifteen bits are ones
abbrev pub mq_last_number : MqWriter → ℕ
mq_last_number w =
    let filled = w.c / 65536 * 65536 + 65535 in
    if nat_le (w.c + w.a) filled then filled - 32768 else filled

-- FLUSH: C is shifted by CT and given out, twice
abbrev pub mq_given_out : MqWriter → MqWriter
mq_given_out w = mq_byte_out (record w { c = w.c * 2 ^ w.ct })

abbrev pub mq_flushed : MqWriter → List ℕ
mq_flushed w = (mq_given_out (mq_given_out (record w { c = mq_last_number w }))).bytes

-- a last FF is left out
abbrev pub mq_trimmed : List ℕ → List ℕ
mq_trimmed [] = []
mq_trimmed (byte ∷ older) = if byte == 255 then older else byte ∷ older

-- the bytes in their order, without the byte 0 before the first
abbrev pub mq_segment : MqWriter → List ℕ
mq_segment w = drop 1 (reverse (mq_trimmed (mq_flushed w)))

-- what is given to the encoder: a decision under a label, or that the contexts start anew
pub data MqGiven : Type 0 where
  Decided : ℕ → Bool → MqGiven
  Renewed : MqGiven

-- the registers and the contexts after a list
pub record MqWritten : Type 0 where
  pub writer : MqWriter
  pub contexts : MqContexts

-- whether a bit is the more probable symbol of a label
abbrev pub mq_is_mps : MqContexts → ℕ → Bool → Bool
mq_is_mps x label bit = if mq_mps x label then bit else not bit

abbrev pub mq_wrote : MqWriter → MqContexts → ℕ → Bool → MqWriter
mq_wrote w x label bit = mq_written w (mq_row_of x label).qe (mq_is_mps x label bit)

abbrev pub mq_after_bit : MqWriter → MqContexts → ℕ → Bool → MqContexts
mq_after_bit w x label bit = mq_adapted w.a x label (mq_is_mps x label bit)

abbrev pub mq_written_from : MqWriter → MqContexts → List MqGiven → MqWritten
mq_written_from w x [] = record { writer = w; contexts = x }
mq_written_from w x (Decided label bit ∷ given) = mq_written_from (mq_wrote w x label bit) (mq_after_bit w x label bit) given
mq_written_from w x (Renewed ∷ given) = mq_written_from w mq_fresh given

-- the segment that the encoder makes of a list, from some contexts, and the contexts after
abbrev pub mq_write : MqContexts → List MqGiven → List ℕ
mq_write x given = mq_segment (mq_written_from mq_writer x given).writer

abbrev pub mq_contexts_after : MqContexts → List MqGiven → MqContexts
mq_contexts_after x given = (mq_written_from mq_writer x given).contexts

-- what a decoder is asked to give the list back, and its bits
abbrev pub mq_asked : List MqGiven → List MqAsked
mq_asked [] = []
mq_asked (Decided label bit ∷ given) = Under label ∷ mq_asked given
mq_asked (Renewed ∷ given) = Anew ∷ mq_asked given

abbrev pub mq_bits : List MqGiven → List Bool
mq_bits [] = []
mq_bits (Decided label bit ∷ given) = bit ∷ mq_bits given
mq_bits (Renewed ∷ given) = mq_bits given

-- many segments, each from the contexts that the one before it left
abbrev pub mq_write_each : MqContexts → List (List MqGiven) → List (List ℕ)
mq_write_each x [] = []
mq_write_each x (given ∷ more) = mq_write x given ∷ mq_write_each (mq_contexts_after x given) more

abbrev pub mq_bits_each : MqContexts → List (List ℕ) → List (List MqAsked) → List (List Bool)
mq_bits_each x [] asked = []
mq_bits_each x (segment ∷ segments) [] = []
mq_bits_each x (segment ∷ segments) (asked ∷ more) =
    let read = mq_decisions segment x asked in read.bits ∷ mq_bits_each read.contexts segments more

-- the contexts after many segments, written and read
abbrev pub mq_contexts_left : MqContexts → List (List MqGiven) → MqContexts
mq_contexts_left x [] = x
mq_contexts_left x (given ∷ more) = mq_contexts_left (mq_contexts_after x given) more

abbrev pub mq_contexts_each : MqContexts → List (List ℕ) → List (List MqAsked) → MqContexts
mq_contexts_each x [] asked = x
mq_contexts_each x (segment ∷ segments) [] = x
mq_contexts_each x (segment ∷ segments) (asked ∷ more) = mq_contexts_each (mq_decisions segment x asked).contexts segments more
