use Rattle.std.proofs.Common.{◌≡◌}
use Rattle.jx_packet_header.specs.Precinct.{IsState}
use Rattle.jx_packet_tests.proofs.head_tests.both_ways.Given as goal

abbrev pub invariant-packets : goal.invariant-packets
invariant-packets g l = (l.out.next ≡ l.layer) × (l.out.layers ≡ l.layers) × (l.precinct.layer ≡ l.layer) × IsState l.precinct
