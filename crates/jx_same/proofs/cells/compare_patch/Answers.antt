use Rattle.std.proofs.Common.{◌≤◌, ℕ, arith, subst}
use Rattle.jx_same.specs.Items.{block_items, differs}
use Rattle.jx_same.specs.Runs.{row_items}
use Rattle.jx_same.specs.Sides.{geometry_at, meaning_at}
use Rattle.jx_same.proofs.FindLemmas.{from_begins, from_ends, from_goes, nothing}
use Rattle.jx_same.proofs.RowLemmas.{row_found}
use Rattle.jx_same.proofs.cells.compare_patch.Goals as goal

pub loop-row-init : goal.loop-row-init
loop-row-init c =
    let n = c.args.name in
    let f = block_items (geometry_at c.args.a.now) n.comp n.res n.band in
    record {
      shelf = c.requires.shelf;
      none = from_begins (differs (meaning_at c.args.a.now) (meaning_at c.args.b.now)) (row_items f c.args.walk.wide c.args.patch.left c.args.patch.right) c.args.patch.low c.args.patch.low (omega arith);
    }

pub compare_between-requires-clause-high : goal.compare_between-requires-clause-high
compare_between-requires-clause-high c = subst (λ (k : ℕ). c.index_in-behind.result ≤ k) c.requires.walk.all c.index_in-behind.ensures.within

pub returns-in-Some-clause-first : goal.returns-in-Some-clause-first
returns-in-Some-clause-first c =
    let n = c.args.name in
    let f = block_items (geometry_at c.args.a.now) n.comp n.res n.band in
    let from : c.args.patch.low ≤ c.loop-row.row = omega arith in
    record {
      from = from;
      below = c.loop-row-test.true;
      before = c.loop-row.invariant.none;
      here = row_found (differs (meaning_at c.args.a.now) (meaning_at c.args.b.now)) f c.args.walk.wide c.args.patch.left c.args.patch.right c.loop-row.row c.index_in-from.result c.index_in-behind.result
          c.in_ok-spot.field-0 _ c.index_in-from.ensures.value c.index_in-behind.ensures.value c.in_ok-spot.ensures.first c.in-Some.is;
    }

pub loop-row-preserved : goal.loop-row-preserved
loop-row-preserved c =
    let n = c.args.name in
    let f = block_items (geometry_at c.args.a.now) n.comp n.res n.band in
    let p = differs (meaning_at c.args.a.now) (meaning_at c.args.b.now) in
    record {
      shelf = c.in_ok-spot.ensures.shelf;
      none = from_goes p (row_items f c.args.walk.wide c.args.patch.left c.args.patch.right) c.args.patch.low c.loop-row.row (omega arith) c.loop-row.invariant.none
          (row_found p f c.args.walk.wide c.args.patch.left c.args.patch.right c.loop-row.row c.index_in-from.result c.index_in-behind.result
          c.in_ok-spot.field-0 _ c.index_in-from.ensures.value c.index_in-behind.ensures.value c.in_ok-spot.ensures.first (nothing c.in_ok-spot.field-0 (λ x is. c.in_default.not-Some x is)));
    }

pub returns-clause-first : goal.returns-clause-first
returns-clause-first c =
    let n = c.args.name in
    let f = block_items (geometry_at c.args.a.now) n.comp n.res n.band in
    from_ends (differs (meaning_at c.args.a.now) (meaning_at c.args.b.now)) (row_items f c.args.walk.wide c.args.patch.left c.args.patch.right) c.args.patch.low c.args.patch.high c.loop-row.row
    (omega (arith, c.loop-row-test.false)) (λ le. omega (arith, le)) c.loop-row.invariant.none
