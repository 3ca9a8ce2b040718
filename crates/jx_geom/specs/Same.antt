-- Shapes that give the same code-blocks, whatever their precincts (ITU-T T.800, B.7).
use Rattle.std.specs.Prelude.{ℕ, ◌<◌, ◌≤◌, ◌≡◌, List, length, slice_index_or}
use Rattle.jx_geom.specs.declared.shape.CompShape.{CompShape}
use Rattle.jx_geom.specs.Rects.{block_across, block_down}
use Rattle.jx_geom.specs.Geometry.{no_shape}

-- the same steps and levels, and at each resolution the same exponents of a block; those of precincts may differ
pub record SameBlocks (s t : CompShape) : Type 0 where
  pub step_across : s.dx ≡ t.dx
  pub step_down : s.dy ≡ t.dy
  pub levels : s.levels ≡ t.levels
  pub across : (r : ℕ) → r ≤ s.levels → block_across s r ≡ block_across t r
  pub down : (r : ℕ) → r ≤ s.levels → block_down s r ≡ block_down t r

-- for each component
pub record AllSameBlocks (xs ys : List CompShape) : Type 0 where
  pub long : length xs ≡ length ys
  pub each : (c : ℕ) → c < length xs → SameBlocks (slice_index_or xs c no_shape) (slice_index_or ys c no_shape)
