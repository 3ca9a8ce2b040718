use Rattle.std.proofs.Common.{ap}
use Rattle.jx_geom.specs.Geometry.{Geometry}
use Rattle.jx_tile.specs.Frame.{TileOf}
use Rattle.jx_tile.proofs.FrameLemmas.{of_tile}
use Rattle.jx_tile.proofs.frame.TileFrame.new.Goals as goal

pub invariant_of-result : goal.invariant_of-result
invariant_of-result c =
    of_tile c.args.stream.now c.args.tile c.in_ok-headers.headers c.in_ok-geom.geom c.requires.range c.requires.totals c.requires.tile c.in_ok-headers.ensures c.in_ok-geom.ensures

pub returns : goal.returns
returns c =
    let of : Geometry → TileOf = λ g. record { stream = c.args.stream.now; number = g.tile } in
    ap of c.in_ok-geom.ensures
