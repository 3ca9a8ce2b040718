-- What contracts see of a decoder, and the bounds of its registers.
use Rattle.std.specs.Prelude.{◌≡◌, ◌<◌, ◌≤◌, ◌+◌, ◌*◌, ◌/◌, ◌^◌, ℕ, List, length}
use Rattle.jx_coder_specs.specs.MqReading.{MqReader, mq_refilled}
use Rattle.jx_mq.specs.declared.decoder.Registers.{Registers}

-- the segment, and the registers
pub record MqDecoding : Type 0 where
  pub bytes : List ℕ
  pub reader : MqReader

-- the registers that the code's stand for: its A is in the upper half of 32 bits
abbrev pub reader_of : Registers → MqReader
reader_of r = record { a = r.a / 65536; c = r.c; ct = r.ct; place = r.place; looked = r.looked }

-- the current byte is one of the segment's, or the first one past its end
pub record IsWithin (bytes : List ℕ) (r : MqReader) : Type 0 where
  pub place : r.place ≤ length bytes
  pub looked : r.looked ≤ r.place + 2
  pub ct : r.ct ≤ 8

-- between decisions A has bit 15
pub record IsReading (bytes : List ℕ) (r : MqReader) : Type 0 where
  pub within : IsWithin bytes r
  pub low : 32768 ≤ r.a
  pub high : r.a < 65536

-- shifts lead from the first registers to these, and as many as A still needs lead on
pub record IsRefilling (bytes : List ℕ) (first now : MqReader) : Type 0 where
  pub leads : (n : ℕ) → 32768 ≤ now.a * 2 ^ n → mq_refilled bytes n now ≡ mq_refilled bytes 15 first
  pub within : IsWithin bytes now
  pub some : 0 < now.a
  pub room : now.a < 65536
