use Rattle.std.proofs.Common.{◌≡◌, arith}
use Rattle.jx_same.specs.Items.{block_items, differs}
use Rattle.jx_same.specs.Sides.{geometry_at, meaning_at}
use Rattle.jx_same.proofs.BlockLemmas.{aligned_has, none_on_shelf}
use Rattle.jx_same.proofs.RowLemmas.{best_begins, best_ends}
use Rattle.jx_same.proofs.cells.compare_cells.Goals as goal

pub in_cells-requires-clause-own : goal.in_cells-requires-clause-own
in_cells-requires-clause-own c = aligned_has c.args.a.now c.args.b.now c.args.name c.requires.aligned c.requires.band

pub loop-left-init : goal.loop-left-init
loop-left-init c =
    let n = c.args.name in
    record {
      within = omega arith;
      shelf = none_on_shelf c.args.b.now n c.new-shelf.result c.new-shelf.ensures;
      best = best_begins (differs (meaning_at c.args.a.now) (meaning_at c.args.b.now)) (block_items (geometry_at c.args.a.now) n.comp n.res n.band) c.args.walk.wide c.args.low c.args.high c.requires.low;
    }

pub returns : goal.returns
returns c =
    let n = c.args.name in
    let same : c.loop-left.left ≡ c.args.walk.wide = omega (arith, c.loop-left-test.false, c.loop-left.invariant.within) in
    best_ends (differs (meaning_at c.args.a.now) (meaning_at c.args.b.now)) (block_items (geometry_at c.args.a.now) n.comp n.res n.band) c.args.walk.wide c.loop-left.left c.args.low c.args.high
    c.loop-left.best same c.loop-left.invariant.best
