use Rattle.std.proofs.Common.{◌∙◌, arith, sym}
use Rattle.jx_same.specs.Items.{block_items, differs}
use Rattle.jx_same.specs.Runs.{row_items}
use Rattle.jx_same.specs.Sides.{geometry_at, meaning_at}
use Rattle.jx_same.proofs.FindLemmas.{from_begins, from_ends, nothing}
use Rattle.jx_same.proofs.RowLemmas.{span_goes, span_stops}
use Rattle.jx_same.proofs.cells.compare_rows.Goals as goal

pub loop-row-init : goal.loop-row-init
loop-row-init c =
    let n = c.args.name in
    record {
      from = omega arith;
      within = λ le. le;
      none = from_begins (differs (meaning_at c.args.a.now) (meaning_at c.args.b.now))
          (row_items (block_items (geometry_at c.args.a.now) n.comp n.res n.band) c.args.walk.wide 0 c.args.walk.wide) c.args.low c.args.low (omega arith);
    }

pub returns-in-Some : goal.returns-in-Some
returns-in-Some c =
    let n = c.args.name in
    sym (span_stops (differs (meaning_at c.args.a.now) (meaning_at c.args.b.now)) (row_items (block_items (geometry_at c.args.a.now) n.comp n.res n.band) c.args.walk.wide 0 c.args.walk.wide)
    c.args.low c.loop-row.row c.cell_end-next.result c.args.high c.in-Some.spot c.loop-row.invariant.from (omega (arith, c.cell_end-next.ensures.above)) c.cell_end-next.ensures.within
    c.loop-row.invariant.none (sym c.in_ok-spot.ensures ∙ c.in-Some.is))

pub loop-row-preserved : goal.loop-row-preserved
loop-row-preserved c =
    let n = c.args.name in
    record {
      from = omega (arith, c.loop-row.invariant.from, c.cell_end-next.ensures.above);
      within = λ le. c.cell_end-next.ensures.within;
      none = span_goes (differs (meaning_at c.args.a.now) (meaning_at c.args.b.now)) (row_items (block_items (geometry_at c.args.a.now) n.comp n.res n.band) c.args.walk.wide 0 c.args.walk.wide)
          c.args.low c.loop-row.row c.cell_end-next.result c.loop-row.invariant.from (omega (arith, c.cell_end-next.ensures.above)) c.loop-row.invariant.none
          (sym c.in_ok-spot.ensures ∙ nothing c.in_ok-spot.field-0 (λ x is. c.in_default.not-Some x is));
    }

pub returns : goal.returns
returns c =
    let n = c.args.name in
    sym (from_ends (differs (meaning_at c.args.a.now) (meaning_at c.args.b.now)) (row_items (block_items (geometry_at c.args.a.now) n.comp n.res n.band) c.args.walk.wide 0 c.args.walk.wide)
    c.args.low c.args.high c.loop-row.row (omega (arith, c.loop-row-test.false)) c.loop-row.invariant.within c.loop-row.invariant.none)
