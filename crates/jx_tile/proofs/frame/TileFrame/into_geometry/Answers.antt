use Rattle.std.proofs.Common.{◌∙◌, ap}
use Rattle.jx_codestream.specs.Shapes.{geometry}
use Rattle.jx_tile.specs.Frame.{TileOf}
use Rattle.jx_tile.proofs.frame.TileFrame.into_geometry.Goals as goal

pub returns : goal.returns
returns c = c.self.invariant.geometry ∙ ap (λ (f : TileOf). geometry f.stream f.number) c.self.view_is
