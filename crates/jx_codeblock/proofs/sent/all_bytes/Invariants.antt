use Rattle.std.proofs.Common.{◌≡◌, ◌+◌, map, drop, length}
use Rattle.jx_tier1_specs.specs.Segments.{bytes_of}
use Rattle.jx_codeblock.specs.Segments.{bytes_before}
use Rattle.jx_codeblock.proofs.sent.all_bytes.Given as goal

abbrev pub invariant-loop-segment : goal.invariant-loop-segment
invariant-loop-segment l =
    l.bytes + bytes_before (map bytes_of (drop l.segment-index l.segments)) (length (drop l.segment-index l.segments))
    ≡ bytes_before (map bytes_of l.segments) (length l.segments)
