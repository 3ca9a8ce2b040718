use Rattle.std.proofs.Common.{◌≡◌, ◌∙◌, ◌≤◌, arith, ap, sym}
use Rattle.std.specs.List.{find}
use Rattle.std.proofs.lemmas.Result.{IfOk-weaker}
use Rattle.jx_base.specs.Joined.{joined}
use Rattle.jx_geom.specs.Geometry.{blocks_in}
use Rattle.jx_same.specs.Items.{block_items, differs}
use Rattle.jx_same.specs.Runs.{unit_items}
use Rattle.jx_same.specs.Sides.{geometry_at, meaning_at}
use Rattle.jx_same.proofs.BlockLemmas.{aligned_has}
use Rattle.jx_same.proofs.FindLemmas.{joined_begins, nothing}
use Rattle.jx_same.proofs.RowLemmas.{units_whole}
use Rattle.jx_same.proofs.RunLemmas.{round_goes, round_stops}
use Rattle.jx_same.proofs.runs.compare_blocks.Goals as goal

pub walk-walk-requires-clause-other : goal.walk-walk-requires-clause-other
walk-walk-requires-clause-other g c = aligned_has c.args.a.now c.args.b.now c.args.name c.requires.aligned c.requires.band

pub returns-then-hands-eq1 : goal.returns-then-hands-eq1
returns-then-hands-eq1 g c =
    let n = c.args.name in
    let p = differs (meaning_at c.args.a.now) (meaning_at c.args.b.now) in
    let f = block_items (geometry_at c.args.a.now) n.comp n.res n.band in
    let w = c.walk-walk.result in
    IfOk-weaker c.compare_run.result _ _
    (λ r h. h ∙ ap (λ k. find p (joined (unit_items w.by_rows f w.wide) 0 k)) c.unit_count-units.ensures
    ∙ ap (find p) (units_whole f w.by_rows (blocks_in (geometry_at c.args.a.now) n.comp n.res n.band) w c.walk-walk.ensures)) c.compare_run.ensures

pub loop-low-init : goal.loop-low-init
loop-low-init g c =
    let n = c.args.name in
    record {
      within = omega arith;
      none = joined_begins (differs (meaning_at c.args.a.now) (meaning_at c.args.b.now))
          (unit_items c.walk-walk.result.by_rows (block_items (geometry_at c.args.a.now) n.comp n.res n.band) c.walk-walk.result.wide);
    }

pub returns-in-Some : goal.returns-in-Some
returns-in-Some g c =
    let n = c.args.name in
    let p = differs (meaning_at c.args.a.now) (meaning_at c.args.b.now) in
    let f = block_items (geometry_at c.args.a.now) n.comp n.res n.band in
    let w = c.walk-walk.result in
    let u = unit_items w.by_rows f w.wide in
    let cut = c.next_cut-cut.result in
    let le : c.loop-low.low ≤ cut.high = omega (arith, c.next_cut-cut.ensures.some) in
    let within : cut.high ≤ c.unit_count-units.result = omega (arith, c.next_cut-cut.ensures.high, c.unit_count-units.ensures) in
    let from = ap (λ k. find p (joined u k cut.high)) c.next_cut-cut.ensures.from in
    let all = round_stops p u c.loop-low.low cut.high c.unit_count-units.result c.in-Some.spot le within c.loop-low.invariant.none (sym from ∙ sym c.in_ok-spot.ensures ∙ c.in-Some.is) in
    sym (sym (ap (λ k. find p (joined u 0 k)) c.unit_count-units.ensures ∙ ap (find p) (units_whole f w.by_rows (blocks_in (geometry_at c.args.a.now) n.comp n.res n.band) w c.walk-walk.ensures)) ∙ all)

pub loop-low-preserved : goal.loop-low-preserved
loop-low-preserved g c =
    let n = c.args.name in
    let p = differs (meaning_at c.args.a.now) (meaning_at c.args.b.now) in
    let f = block_items (geometry_at c.args.a.now) n.comp n.res n.band in
    let w = c.walk-walk.result in
    let u = unit_items w.by_rows f w.wide in
    let cut = c.next_cut-cut.result in
    let le : c.loop-low.low ≤ cut.high = omega (arith, c.next_cut-cut.ensures.some) in
    let from = ap (λ k. find p (joined u k cut.high)) c.next_cut-cut.ensures.from in
    record {
      within = omega (arith, c.next_cut-cut.ensures.high, c.unit_count-units.ensures);
      none = round_goes p u c.loop-low.low cut.high le c.loop-low.invariant.none (sym from ∙ sym c.in_ok-spot.ensures ∙ nothing c.in_ok-spot.field-0 (λ x is. c.in_default.not-Some x is));
    }

pub returns : goal.returns
returns g c =
    let n = c.args.name in
    let p = differs (meaning_at c.args.a.now) (meaning_at c.args.b.now) in
    let f = block_items (geometry_at c.args.a.now) n.comp n.res n.band in
    let w = c.walk-walk.result in
    let u = unit_items w.by_rows f w.wide in
    let same : c.loop-low.low ≡ c.unit_count-units.result = omega (arith, c.loop-low-test.false, c.loop-low.invariant.within) in
    sym (sym (ap (λ k. find p (joined u 0 k)) (same ∙ c.unit_count-units.ensures) ∙ ap (find p) (units_whole f w.by_rows (blocks_in (geometry_at c.args.a.now) n.comp n.res n.band) w c.walk-walk.ensures)) ∙ c.loop-low.invariant.none)
