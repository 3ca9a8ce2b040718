use Rattle.std.proofs.Common.{◌≡◌, take}
use Rattle.jx_codestream.specs.Tiles.{entries_joined}
use Rattle.jx_plan.proofs.changes.entries_joined.Given as goal

abbrev pub invariant-loop-segment : goal.invariant-loop-segment
invariant-loop-segment l = l.entries.items ≡ entries_joined (take l.segment-index l.segments)
