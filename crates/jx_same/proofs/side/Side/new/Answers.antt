use Rattle.std.proofs.Common.{◌≡◌, subst, sym, arith}
use Rattle.jx_geom.specs.Numbering.{blocks_below}
use Rattle.jx_codestream.specs.First.{canvas_of}
use Rattle.jx_codestream.specs.Shapes.{shapes_of}
use Rattle.jx_tile.specs.Frame.{TileOf}
use Rattle.jx_same.specs.Sides.{IsSide}
use Rattle.jx_same.proofs.TileLemmas.{blocks_first}
use Rattle.jx_same.proofs.side.Side.new.Goals as goal

pub invariant_of-result : goal.invariant_of-result
invariant_of-result c =
    let s = c.args.input.stream.now in
    let blocks = c.args.input.blocks.now in
    let P : TileOf → Type 0 = λ f. IsSide (record { stream = f.stream; blocks = blocks; tile = f.number }) × (c.blocks_before.result ≡ blocks_below (canvas_of f.stream.siz) (shapes_of f.stream) f.number) in
    let first = c.blocks_before.ensures (blocks_below (canvas_of s.siz) (shapes_of s) c.args.tile) (blocks_first s blocks c.args.tile c.requires.input.blocks_are (omega (arith, c.requires.tile))) in
    subst P (sym c.in_ok-frame.ensures) (record { may = c.requires.input; tile = c.requires.tile }, first)
