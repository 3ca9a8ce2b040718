-- Shifts by many places at once, as the code has them.
use Rattle.std.specs.Prelude.{◌<◌, ◌≤◌, ◌-◌, ◌*◌, ◌%◌, ◌^◌, ℕ}
use Rattle.jx_coder_specs.specs.MqReading.{MqReader}
use Rattle.jx_coder_specs.specs.MqWriting.{MqWriter}

-- the decoder's registers after k shifts for which no byte is due
abbrev pub mq_shifted_by : ℕ → MqReader → MqReader
mq_shifted_by k r = record r { a = r.a * 2 ^ k; c = r.c * 2 ^ k % 4294967296; ct = r.ct - k }

-- the encoder's registers after k shifts, before a byte is given out
abbrev pub mq_moved_by : ℕ → MqWriter → MqWriter
mq_moved_by k w = record w { a = w.a * 2 ^ k; c = w.c * 2 ^ k; ct = w.ct - k }

-- so many shifts bring A to bit 15
pub record IsShort (a left : ℕ) : Type 0 where
  pub enough : 32768 ≤ a * 2 ^ left
  pub few : a * 2 ^ left < 65536
