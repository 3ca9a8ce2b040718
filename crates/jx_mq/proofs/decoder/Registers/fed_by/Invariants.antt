use Rattle.std.proofs.Common.{◌≡◌, ◌/◌, ◌-◌, ◌%◌}
use Rattle.jx_mq.specs.Decoding.{reader_of, IsRefilling}
use Rattle.jx_mq.specs.Shifting.{IsShort}
use Rattle.jx_mq.proofs.decoder.Registers.fed_by.Given as goal

abbrev pub invariant-loop-now : goal.invariant-loop-now
invariant-loop-now l = record { refilling : IsRefilling l.bytes (reader_of l.fn.self) (reader_of l.now); short : IsShort (l.now.a / 65536) l.left; wide : l.now.a % 65536 ≡ 0 }

abbrev pub decreases-loop-now : goal.decreases-loop-now
decreases-loop-now l = l.left - l.now.ct
