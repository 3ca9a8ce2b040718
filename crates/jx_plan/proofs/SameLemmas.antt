-- Tiles whose shapes give the same code-blocks have as many of them.
use Rattle.std.proofs.Common.{◌≡◌, ◌<◌, ℕ, List}
use Rattle.jx_geom.specs.declared.shape.Canvas.{Canvas}
use Rattle.jx_geom.specs.declared.shape.CompShape.{CompShape}
use Rattle.jx_geom.specs.Rects.{tile_rect}
use Rattle.jx_geom.specs.Counts.{tile_blocks, tile_count}
use Rattle.jx_geom.specs.Numbering.{blocks_of_all}
use Rattle.jx_geom.specs.Same.{AllSameBlocks}
use Rattle.jx_geom.proofs.SameLemmas.{same_sum, same_tile}

-- and so over the codestream
pub same_of_all : (c : Canvas) (xs ys : ℕ → List CompShape) → ((t : ℕ) → t < tile_count c → AllSameBlocks (xs t) (ys t)) → blocks_of_all c xs ≡ blocks_of_all c ys
same_of_all c xs ys h =
    same_sum (λ n. tile_blocks (tile_rect c n) (xs n)) (λ n. tile_blocks (tile_rect c n) (ys n)) (tile_count c) (λ t lt. same_tile (tile_rect c t) (xs t) (ys t) (h t lt))
