use Rattle.std.proofs.Common.{◌∙◌, sym, arith}
use Rattle.jx_same.specs.Items.{block_items, differs}
use Rattle.jx_same.specs.Sides.{geometry_at, meaning_at}
use Rattle.jx_same.proofs.FindLemmas.{from_begins, from_ends, from_goes, from_stops, nothing}
use Rattle.jx_same.proofs.cells.compare_between.Goals as goal

pub loop-index-init : goal.loop-index-init
loop-index-init c =
    let n = c.args.name in
    record {
      shelf = c.requires.shelf;
      none = from_begins (differs (meaning_at c.args.a.now) (meaning_at c.args.b.now)) (block_items (geometry_at c.args.a.now) n.comp n.res n.band) c.args.low c.args.low (omega arith);
    }

pub returns-in-Some-clause-first : goal.returns-in-Some-clause-first
returns-in-Some-clause-first c =
    let n = c.args.name in
    sym (from_stops (differs (meaning_at c.args.a.now) (meaning_at c.args.b.now)) (block_items (geometry_at c.args.a.now) n.comp n.res n.band) c.args.low c.loop-index.index c.args.high c.in-Some.spot
    (omega arith) c.loop-index.invariant.none (sym c.in_ok-spot.ensures.first ∙ c.in-Some.is) c.loop-index-test.true)

pub loop-index-preserved : goal.loop-index-preserved
loop-index-preserved c =
    let n = c.args.name in
    record {
      shelf = c.in_ok-spot.ensures.shelf;
      none = from_goes (differs (meaning_at c.args.a.now) (meaning_at c.args.b.now)) (block_items (geometry_at c.args.a.now) n.comp n.res n.band) c.args.low c.loop-index.index
          (omega arith) c.loop-index.invariant.none (sym c.in_ok-spot.ensures.first ∙ nothing c.in_ok-spot.field-0 (λ x is. c.in_default.not-Some x is));
    }

pub returns-clause-first : goal.returns-clause-first
returns-clause-first c =
    let n = c.args.name in
    sym (from_ends (differs (meaning_at c.args.a.now) (meaning_at c.args.b.now)) (block_items (geometry_at c.args.a.now) n.comp n.res n.band) c.args.low c.args.high c.loop-index.index
    (omega (arith, c.loop-index-test.false)) (λ le. omega (arith, le)) c.loop-index.invariant.none)
