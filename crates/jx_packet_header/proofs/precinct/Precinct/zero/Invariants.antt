use Rattle.std.proofs.Common.{◌≡◌}
use Rattle.jx_packet_header.proofs.FreshLemmas.{Within}
use Rattle.jx_packet_header.proofs.precinct.Precinct.zero.Given as goal

abbrev pub invariant-loop-band : goal.invariant-loop-band
invariant-loop-band l = Within l.self.bands l.band-index l.left l.block × (l.band-items ≡ l.self.bands)
