use Rattle.std.proofs.Common.{drop}
use Rattle.jx_packet_header.specs.Writable.{IsRising}
use Rattle.jx_packet_header.proofs.precinct_out.is_rising.Given as goal

abbrev pub invariant-loop-part : goal.invariant-loop-part
invariant-loop-part l = IsRising l.last (drop l.part-index l.parts) → IsRising 0 l.parts
