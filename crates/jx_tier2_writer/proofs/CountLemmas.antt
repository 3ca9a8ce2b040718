-- Shapes that give the same code-blocks give as many of them, in a tile and below one.
use Rattle.std.proofs.Common.{◌≡◌, ℕ, ◌<◌, List}
use Rattle.jx_geom.specs.declared.shape.Canvas.{Canvas}
use Rattle.jx_geom.specs.declared.shape.CompShape.{CompShape}
use Rattle.jx_geom.specs.Counts.{tile_blocks}
use Rattle.jx_geom.specs.Numbering.{blocks_below}
use Rattle.jx_geom.specs.Rects.{tile_rect}
use Rattle.jx_geom.specs.Same.{AllSameBlocks}
use Rattle.jx_geom.proofs.SameLemmas.{same_sum, same_tile}

pub same_below : (c : Canvas) (xs ys : ℕ → List CompShape) (t : ℕ) → ((n : ℕ) → n < t → AllSameBlocks (xs n) (ys n)) → blocks_below c xs t ≡ blocks_below c ys t
same_below c xs ys t h =
    same_sum (λ n. tile_blocks (tile_rect c n) (xs n)) (λ n. tile_blocks (tile_rect c n) (ys n)) t (λ n lt. same_tile (tile_rect c n) (xs n) (ys n) (h n lt))
