-- What the encoder's registers stand for, and their bounds.
use Rattle.std.specs.Prelude.{◌≡◌, ◌<◌, ◌≤◌, ◌+◌, ◌*◌, ◌/◌, ◌^◌, ℕ, List, [], ◌∷◌, reverse}
use Rattle.jx_coder_specs.specs.MqWriting.{MqWriter, mq_renormalized}
use Rattle.jx_mq.specs.declared.encoder.Registers.{Registers}

-- the registers that the code's stand for, with the older bytes: its A is in the upper half of 32 bits
abbrev pub writer_of : Registers → List ℕ → MqWriter
writer_of r older = record { a = r.a / 65536; c = r.c; ct = r.ct; bytes = r.newest ∷ reverse older }

-- what a byte given out depends on and changes
abbrev pub given : ℕ → ℕ → List ℕ → MqWriter
given c ct bytes = record { a = 0; c = c; ct = ct; bytes = bytes }

-- the bytes given out, the newest first: none after FF is above 8F, and the oldest is 0
abbrev pub AreGiven : List ℕ → Type 0
AreGiven [] = ⊥
AreGiven (byte ∷ []) = byte ≡ 0
AreGiven (byte ∷ before ∷ older) = (byte < 256) × (before ≡ 255 → byte ≤ 143) × AreGiven (before ∷ older)

-- the newest byte can take no carry: it is the one before the first, or 8F after FF
abbrev pub IsFull : List ℕ → Type 0
IsFull [] = ⊥
IsFull (byte ∷ []) = Unit {0}
IsFull (byte ∷ before ∷ older) = (byte ≡ 143) × (before ≡ 255)

-- the interval stays below one carry and an eighth of one, and below one where none can be taken
pub record IsBounded (w : MqWriter) : Type 0 where
  pub some : 0 < w.a
  pub width : w.a ≤ 65536
  pub ct : w.ct ≤ 12
  pub room : (w.c + w.a) * 2 ^ w.ct ≤ 150994944
  pub given : AreGiven w.bytes
  pub tight : IsFull w.bytes → (w.c + w.a) * 2 ^ w.ct ≤ 134217728

-- no byte is due
pub record IsCoding (w : MqWriter) : Type 0 where
  pub bounded : IsBounded w
  pub due : 0 < w.ct

-- between decisions A has bit 15
pub record IsCoder (w : MqWriter) : Type 0 where
  pub coding : IsCoding w
  pub low : 32768 ≤ w.a
  pub high : w.a < 65536

-- shifts lead from the first registers to these, and as many as A still needs lead on
pub record IsRenormalizing (first now : MqWriter) : Type 0 where
  pub leads : (n : ℕ) → 32768 ≤ now.a * 2 ^ n → mq_renormalized n now ≡ mq_renormalized 15 first
  pub coding : IsCoding now
  pub room : now.a < 65536
