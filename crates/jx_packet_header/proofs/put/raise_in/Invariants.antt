use Rattle.std.proofs.Common.{◌≡◌, ◌≤◌, ◌+◌, drop, max}
use Rattle.jx_packet_header.specs.Written.{parts_in, raise_of}
use Rattle.jx_packet_header.proofs.put.raise_in.Given as goal

abbrev pub invariant-loop-part : goal.invariant-loop-part
invariant-loop-part l = (max l.raise (raise_of l.lblock (parts_in l.layer (drop l.part-index l.parts))) ≡ raise_of l.lblock (parts_in l.layer l.parts)) × (l.raise + l.lblock ≤ 32)
