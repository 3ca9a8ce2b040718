use Rattle.std.proofs.Common.{drop}
use Rattle.jx_marker.specs.Ranges.{AreBytes}
use Rattle.jx_tier2_writer.proofs.lengths.are_bytes.Given as goal

abbrev pub invariant-loop-byte : goal.invariant-loop-byte
invariant-loop-byte l = AreBytes (drop l.byte-index l.bytes) → AreBytes l.bytes
