use Rattle.std.proofs.Common.{◌≡◌, ◌<◌, ℕ, false, Some, slice_index_or}
use Rattle.jx_codestream.specs.Shapes.{no_tile}
use Rattle.jx_plan.specs.Fits.{tile_has_zero}
use Rattle.jx_plan.proofs.fitting.zero_tile.Given as goal

abbrev pub invariant-loop-tile : goal.invariant-loop-tile
invariant-loop-tile l = (k : ℕ) → k < l.tile → tile_has_zero (Some l.items) (slice_index_or l.tiles k no_tile) ≡ false
