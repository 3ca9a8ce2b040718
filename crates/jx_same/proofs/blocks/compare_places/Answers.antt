use Rattle.std.proofs.Common.{◌∙◌, ◌<◌, ap, refl, sym, arith, not, Some}
use Rattle.std.specs.List.{find}
use Rattle.jx_base.specs.declared.names.Rect.{Rect}
use Rattle.jx_base.specs.Places.{size_of}
use Rattle.jx_same.specs.Items.{coef_item, coef_items, differs, spot_of_coef}
use Rattle.jx_same.specs.Sides.{meaning_at}
use Rattle.jx_same.proofs.BlockLemmas.{aligned_has, coef_unlike, place_over, spot_is}
use Rattle.jx_same.proofs.FindLemmas.{joined_begins, joined_goes, joined_stops, one_found, one_none}
use Rattle.jx_same.proofs.StepLemmas.{place_there, starts_across, starts_down}
use Rattle.jx_same.proofs.blocks.compare_places.Goals as goal

pub loop-number-init : goal.loop-number-init
loop-number-init c =
    let n = c.args.name in
    record {
      column = starts_across c.rect-rect.result;
      row = starts_down c.rect-rect.result;
      shelf = c.requires.shelf;
      none = joined_begins (differs (meaning_at c.args.a.now) (meaning_at c.args.b.now)) (coef_item c.args.a.now.tile n.comp n.res n.band c.rect-rect.result);
    }

pub agrees-requires-clause-band : goal.agrees-requires-clause-band
agrees-requires-clause-band c = aligned_has c.args.a.now c.args.b.now c.args.name c.requires.aligned c.requires.band

pub agrees-requires-clause-place : goal.agrees-requires-clause-place
agrees-requires-clause-place c =
    let x = c.loop-number.x in
    let y = c.loop-number.y in
    let below : c.loop-number._number < size_of c.rect-rect.result = omega (arith, c.loop-number-test.true, c.area-number-end.ensures) in
    place_over c.args.a.now c.args.b.now c.args.name c.requires.aligned c.requires.band x y
    (c.requires.inside x y (place_there c.rect-rect.result c.args.block.now.rect c.loop-number._number x y c.rect-rect.ensures.value c.loop-number.invariant.column c.loop-number.invariant.row below))

pub agrees-requires-clause-here : goal.agrees-requires-clause-here
agrees-requires-clause-here c =
    let x = c.loop-number.x in
    let y = c.loop-number.y in
    let below : c.loop-number._number < size_of c.rect-rect.result = omega (arith, c.loop-number-test.true, c.area-number-end.ensures) in
    place_there c.rect-rect.result c.args.block.now.rect c.loop-number._number x y c.rect-rect.ensures.value c.loop-number.invariant.column c.loop-number.invariant.row below

pub place_after-requires : goal.place_after-requires
place_after-requires c =
    let below : c.loop-number._number < size_of c.rect-rect.result = omega (arith, c.loop-number-test.true, c.area-number-end.ensures) in
    place_there c.rect-rect.result c.rect-rect.result c.loop-number._number c.loop-number.x c.loop-number.y refl c.loop-number.invariant.column c.loop-number.invariant.row below

pub returns-then-not-branch-clause-first : goal.returns-then-not-branch-clause-first
returns-then-not-branch-clause-first c =
    let a = c.args.a.now in
    let b = c.args.b.now in
    let n = c.args.name in
    let rect = c.rect-rect.result in
    let k = c.loop-number._number in
    let x = c.loop-number.x in
    let y = c.loop-number.y in
    let p = differs (meaning_at a) (meaning_at b) in
    let below : c.loop-number._number < size_of c.rect-rect.result = omega (arith, c.loop-number-test.true, c.area-number-end.ensures) in
    let inside = place_there c.rect-rect.result c.args.block.now.rect c.loop-number._number x y c.rect-rect.ensures.value c.loop-number.invariant.column c.loop-number.invariant.row below in
    let unlike = coef_unlike a b n c.args.block.now rect k x y c.in_ok-agrees.field-0 c.requires.aligned.beside.tile c.requires.block c.loop-number.invariant.column c.loop-number.invariant.row inside c.in_ok-agrees.ensures.agrees in
    let here = one_found p (spot_of_coef a.tile n.comp n.res n.band rect k) (unlike ∙ ap not c.if-not-branch.true) in
    let stops = joined_stops p (coef_item a.tile n.comp n.res n.band rect) k (size_of rect) (spot_of_coef a.tile n.comp n.res n.band rect k) c.loop-number.invariant.none here below in
    let spot = spot_is c.spot_of.result a.tile n.comp n.res n.band rect k x y c.tile.result c.spot_of.ensures c.tile.ensures.value c.loop-number.invariant.column c.loop-number.invariant.row in
    ap Some spot ∙ sym stops ∙ ap (λ (r : Rect). find p (coef_items a.tile n.comp n.res n.band r)) c.rect-rect.ensures.value

pub loop-number-preserved : goal.loop-number-preserved
loop-number-preserved c =
    let a = c.args.a.now in
    let b = c.args.b.now in
    let n = c.args.name in
    let rect = c.rect-rect.result in
    let k = c.loop-number._number in
    let x = c.loop-number.x in
    let y = c.loop-number.y in
    let p = differs (meaning_at a) (meaning_at b) in
    let below : c.loop-number._number < size_of c.rect-rect.result = omega (arith, c.loop-number-test.true, c.area-number-end.ensures) in
    let inside = place_there c.rect-rect.result c.args.block.now.rect c.loop-number._number x y c.rect-rect.ensures.value c.loop-number.invariant.column c.loop-number.invariant.row below in
    let unlike = coef_unlike a b n c.args.block.now rect k x y c.in_ok-agrees.field-0 c.requires.aligned.beside.tile c.requires.block c.loop-number.invariant.column c.loop-number.invariant.row inside c.in_ok-agrees.ensures.agrees in
    let next = c.place_after.ensures k c.loop-number.invariant.column c.loop-number.invariant.row in
    record {
      column = next.0;
      row = next.1;
      shelf = c.in_ok-agrees.ensures.shelf;
      none = joined_goes p (coef_item a.tile n.comp n.res n.band rect) k c.loop-number.invariant.none (one_none p (spot_of_coef a.tile n.comp n.res n.band rect k) (unlike ∙ ap not c.if-not-branch.false));
    }
