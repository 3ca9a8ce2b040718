use Rattle.std.proofs.Common.{◌≡◌, ◌++◌}
use Rattle.std.specs.List.{filter}
use Rattle.jx_codestream.specs.Tiles.{is_com}
use Rattle.jx_codestream.proofs.tiles.push_notes.Given as goal

abbrev pub invariant-loop-segment : goal.invariant-loop-segment
invariant-loop-segment l = l.notes.items ≡ l.fn.notes.items ++ filter is_com l.yielded
