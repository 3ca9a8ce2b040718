use Rattle.std.proofs.Common.{◌≡◌, ◌∙◌, ◌+◌, ◌-◌, ◌<◌, sym, length, arith}
use Rattle.jx_same.specs.Items.{component_items, differs, tile_items}
use Rattle.jx_same.specs.Sides.{geometry_at, meaning_at}
use Rattle.jx_same.proofs.FindLemmas.{joined_begins, joined_goes, joined_stops, nothing}
use Rattle.jx_same.proofs.tiles.compare_tile.Goals as goal

pub loop-comp-init : goal.loop-comp-init
loop-comp-init g c = record {
  empty = λ lt. absurd (omega (arith, lt));
  none = joined_begins (differs (meaning_at c.args.a.now) (meaning_at c.args.b.now)) (component_items (geometry_at c.args.a.now));
}

pub returns-in-Some : goal.returns-in-Some
unfolding tile_items
returns-in-Some g c =
    let all = length c.args.a.now.stream.siz.comps in
    let below : c.loop-comp.comp < all = omega (arith, c.loop-comp-test.true, c.comps-comp-end.ensures) in
    sym (joined_stops (differs (meaning_at c.args.a.now) (meaning_at c.args.b.now)) (component_items (geometry_at c.args.a.now)) c.loop-comp.comp all c.in-Some.spot
    c.loop-comp.invariant.none (sym c.in_ok-spot.ensures ∙ c.in-Some.is) below)

pub loop-comp-preserved : goal.loop-comp-preserved
loop-comp-preserved g c = record {
  empty = λ lt. rw (let e : (c.loop-comp.comp + 1) - 1 ≡ c.loop-comp.comp = omega arith in e) c.is_empty_after-empty.ensures;
  none = joined_goes (differs (meaning_at c.args.a.now) (meaning_at c.args.b.now)) (component_items (geometry_at c.args.a.now)) c.loop-comp.comp c.loop-comp.invariant.none
      (sym c.in_ok-spot.ensures ∙ nothing c.in_ok-spot.field-0 (λ x is. c.in_default.not-Some x is));
}
