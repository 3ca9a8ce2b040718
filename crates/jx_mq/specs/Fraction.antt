-- Bytes as a binary fraction, and the encoder's interval in its scale.
use Rattle.std.specs.Prelude.{ℕ, zero, suc, ◌+◌, ◌-◌, ◌*◌, ◌^◌, ◌==◌, List, [], ◌∷◌, if◌then◌else◌}
use Rattle.jx_coder_specs.specs.MqWriting.{MqWriter, mq_newest}

-- how many places the byte after this one is further: a byte after FF begins one place earlier
abbrev pub span : ℕ → ℕ
span before = if before == 255 then 7 else 8

-- the bytes as one number, the newest first, and how many places they take
abbrev pub value : List ℕ → ℕ
value [] = 0
value (byte ∷ older) = value older * 2 ^ span (mq_newest older) + byte

abbrev pub size : List ℕ → ℕ
size [] = 0
size (byte ∷ older) = size older + span (mq_newest older)

-- the lower end of the interval, and the places of the scale in which A is its width
abbrev pub low : MqWriter → ℕ
low w = value w.bytes * 2 ^ (27 - w.ct) + w.c

abbrev pub scale : MqWriter → ℕ
scale w = size w.bytes + (27 - w.ct)

-- the first bytes of a segment, the newest first, after the byte 0 before the first
abbrev pub front : (ℕ → ℕ) → ℕ → List ℕ
front byte zero = 0 ∷ []
front byte (suc count) = byte count ∷ front byte count
