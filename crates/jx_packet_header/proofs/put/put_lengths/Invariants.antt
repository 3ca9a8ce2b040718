use Rattle.std.proofs.Common.{◌≡◌, ◌++◌, drop}
use Rattle.jx_packet_header.specs.Parts.{length_bits}
use Rattle.jx_packet_header.specs.Written.{parts_in}
use Rattle.jx_packet_header.proofs.put.put_lengths.Given as goal

abbrev pub invariant-loop-part : goal.invariant-loop-part
invariant-loop-part l = l.bits ++ length_bits l.lblock (parts_in l.layer (drop l.part-index l.parts)) ≡ l.initial.bits ++ length_bits l.lblock (parts_in l.layer l.parts)
