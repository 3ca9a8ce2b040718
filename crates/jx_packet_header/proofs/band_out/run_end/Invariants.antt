use Rattle.std.proofs.Common.{◌+◌, ◌-◌, ◌≤◌, length}
use Rattle.jx_packet_header.specs.Writable.{IsCursor}
use Rattle.jx_packet_header.proofs.band_out.run_end.Given as goal

abbrev pub invariant-loop-end : goal.invariant-loop-end
invariant-loop-end l = (l.start ≤ l.end) × (l.end ≤ length l.parts) × IsCursor (l.layer + 1) l.end l.parts

abbrev pub decreases-loop-end : goal.decreases-loop-end
decreases-loop-end l = length l.parts - l.end
