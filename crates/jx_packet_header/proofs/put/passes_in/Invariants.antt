use Rattle.std.proofs.Common.{◌≡◌, ◌+◌, drop}
use Rattle.jx_packet_header.specs.Written.{parts_in, passes_of}
use Rattle.jx_packet_header.proofs.put.passes_in.Given as goal

abbrev pub invariant-loop-part : goal.invariant-loop-part
invariant-loop-part l = l.passes + passes_of (parts_in l.layer (drop l.part-index l.parts)) ≡ passes_of (parts_in l.layer l.parts)
