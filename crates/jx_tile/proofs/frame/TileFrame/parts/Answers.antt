use Rattle.std.proofs.Common.{◌∙◌, ap}
use Rattle.jx_codestream.specs.Params.{headers_at}
use Rattle.jx_codestream.specs.Shapes.{geometry}
use Rattle.jx_tile.specs.Frame.{TileOf}
use Rattle.jx_tile.proofs.frame.TileFrame.parts.Goals as goal

pub returns-clause-stream : goal.returns-clause-stream
returns-clause-stream c = ap (λ (f : TileOf). f.stream) c.self.view_is

pub returns-clause-view : goal.returns-clause-view
returns-clause-view c = c.self.invariant.view ∙ ap (λ (f : TileOf). headers_at f.stream f.number) c.self.view_is

pub returns-clause-geometry : goal.returns-clause-geometry
returns-clause-geometry c = c.self.invariant.geometry ∙ ap (λ (f : TileOf). geometry f.stream f.number) c.self.view_is

pub returns-clause-tile : goal.returns-clause-tile
returns-clause-tile c = c.self.invariant
