use Rattle.std.proofs.Common.{◌≡◌, drop}
use Rattle.std.specs.List.{find}
use Rattle.jx_codestream.specs.Params.{tile_has_too_few}
use Rattle.jx_codestream.proofs.checks.check_entries.Given as goal

abbrev pub invariant-loop-tile : goal.invariant-loop-tile
invariant-loop-tile l = find (tile_has_too_few l.main.segments.now l.comps) l.tiles ≡ find (tile_has_too_few l.main.segments.now l.comps) (drop l.tile-index l.tiles)
