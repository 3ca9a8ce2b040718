use Rattle.std.proofs.Common.{◌+◌, ◌-◌, ◌*◌, map}
use Rattle.jx_packet_header.specs.Leafs.{leaf_of}
use Rattle.jx_packet_header.proofs.QuietLemmas.{Row}
use Rattle.jx_packet_header.proofs.band_out.write_band.Given as goal

abbrev pub invariant-loop-down : goal.invariant-loop-down
invariant-loop-down l = Row l.layer l.down l.across l.next l.wide l.high (map leaf_of l.leaves) l.initial.band l.band l.initial.bits l.bits

abbrev pub decreases-loop-down : goal.decreases-loop-down
decreases-loop-down l = l.high * l.wide - (l.down * l.wide + l.across)
