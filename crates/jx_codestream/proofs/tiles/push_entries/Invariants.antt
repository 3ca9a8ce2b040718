use Rattle.std.proofs.Common.{◌≡◌, ◌++◌, take}
use Rattle.jx_codestream.specs.Tiles.{entries_joined}
use Rattle.jx_codestream.proofs.tiles.push_entries.Given as goal

abbrev pub invariant-loop-segment : goal.invariant-loop-segment
invariant-loop-segment l = l.entries.items ≡ l.fn.entries.items ++ entries_joined (take l.segment-index l.segments)
