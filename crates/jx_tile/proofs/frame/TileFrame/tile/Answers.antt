use Rattle.std.proofs.Common.{◌∙◌, ℕ, ap, arith}
use Rattle.jx_codestream.specs.Shapes.{tile_at}
use Rattle.jx_tile.specs.Frame.{TileOf}
use Rattle.jx_tile.proofs.frame.TileFrame.tile.Goals as goal

pub tile-requires : goal.tile-requires
tile-requires c = omega (arith, c.number.ensures, c.self.invariant.tile, c.self.invariant.range.tiles)

pub returns : goal.returns
returns c = c.tile.ensures ∙ ap (λ (n : ℕ). tile_at c.self.inside.stream.now n) c.number.ensures ∙ ap (λ (f : TileOf). tile_at f.stream f.number) c.self.view_is
