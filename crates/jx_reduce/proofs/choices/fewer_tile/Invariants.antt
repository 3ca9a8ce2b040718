use Rattle.std.proofs.Common.{◌≡◌, ◌<◌, ℕ, false, slice_index_or}
use Rattle.jx_codestream.specs.Shapes.{no_tile}
use Rattle.jx_reduce.specs.Unreducible.{tile_has_fewer}
use Rattle.jx_reduce.proofs.choices.fewer_tile.Given as goal

abbrev pub invariant-loop-tile : goal.invariant-loop-tile
invariant-loop-tile l = (k : ℕ) → k < l.tile → tile_has_fewer l.d (slice_index_or l.tiles k no_tile) ≡ false
