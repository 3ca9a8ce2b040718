use Rattle.std.proofs.Common.{◌∙◌, ap, sym, arith, ℕ}
use Rattle.jx_base.specs.Joined.{sum_below}
use Rattle.jx_geom.specs.Numbering.{blocks_below}
use Rattle.jx_codestream.specs.First.{canvas_of}
use Rattle.jx_codestream.specs.Shapes.{shapes_of}
use Rattle.jx_tile.specs.Totals.{tile_packets}
use Rattle.jx_tile.proofs.TotalLemmas.{blocks_are, packets_are}
use Rattle.jx_tile.proofs.totals.count_all.Goals as goal

pub returns-clause-blocks : goal.returns-clause-blocks
returns-clause-blocks c =
    let s = c.args.stream.now in
    c.loop-tile.invariant.blocks ∙ ap (λ (n : ℕ). blocks_below (canvas_of s.siz) (shapes_of s) n) (omega arith) ∙ sym (blocks_are s)

pub returns-clause-packets : goal.returns-clause-packets
returns-clause-packets c =
    let s = c.args.stream.now in
    c.loop-tile.invariant.packets ∙ ap (λ (n : ℕ). sum_below (tile_packets s) n) (omega arith) ∙ sym (packets_are s)
