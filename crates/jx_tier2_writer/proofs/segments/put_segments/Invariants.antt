use Rattle.std.proofs.Common.{◌≡◌, ◌++◌, drop}
use Rattle.jx_codestream.specs.Spells.{all_bytes}
use Rattle.jx_tier2_writer.proofs.segments.put_segments.Given as goal

abbrev pub invariant-loop-segment : goal.invariant-loop-segment
invariant-loop-segment l = l.out.items ++ all_bytes l.comps (drop l.segment-index l.segments) ≡ l.initial.out.items ++ all_bytes l.comps l.segments
