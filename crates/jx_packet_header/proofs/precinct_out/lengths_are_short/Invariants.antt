use Rattle.std.proofs.Common.{drop}
use Rattle.jx_packet_header.specs.LeavesFit.{HasShort}
use Rattle.jx_packet_header.proofs.precinct_out.lengths_are_short.Given as goal

abbrev pub invariant-loop-part : goal.invariant-loop-part
invariant-loop-part l = HasShort (drop l.part-index l.parts) → HasShort l.parts
