use Rattle.std.proofs.Common.{◌≡◌, ◌-◌, ◌++◌, replicate, true}
use Rattle.jx_packet_header.proofs.put.put_ones.Given as goal

abbrev pub invariant-loop : goal.invariant-loop
invariant-loop l = l.bits ++ replicate (l.count - l.counter) true ≡ l.initial.bits ++ replicate l.count true
