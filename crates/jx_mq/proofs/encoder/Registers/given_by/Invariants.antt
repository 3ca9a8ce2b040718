use Rattle.std.proofs.Common.{◌≡◌, ◌/◌, ◌%◌}
use Rattle.jx_mq.specs.Coding.{writer_of, IsRenormalizing}
use Rattle.jx_mq.specs.Shifting.{IsShort}
use Rattle.jx_mq.proofs.encoder.Registers.given_by.Given as goal

abbrev pub invariant-loop-now : goal.invariant-loop-now
invariant-loop-now l = record { shifting : IsRenormalizing (writer_of l.fn.self l.initial.older.items) (writer_of l.now l.older.items); short : IsShort (l.now.a / 65536) l.left; wide : l.now.a % 65536 ≡ 0 }

abbrev pub decreases-loop-now : goal.decreases-loop-now
decreases-loop-now l = l.left
