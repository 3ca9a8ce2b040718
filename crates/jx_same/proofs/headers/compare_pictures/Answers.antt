use Rattle.std.proofs.Common.{◌≡◌, ◌∙◌, ◌<◌, ap, sym, length, map, arith, None, Some}
use Rattle.std.specs.List.{find}
use Rattle.jx_base.specs.Joined.{joined}
use Rattle.jx_same.specs.Items.{differs, picture_fields, size_items, spot_of_component}
use Rattle.jx_same.specs.Sides.{meaning_in, unlike_picture}
use Rattle.jx_same.proofs.FieldLemmas.{picture_found}
use Rattle.jx_same.proofs.FindLemmas.{before, behind, joined_begins, joined_goes, joined_stops, none_made, nothing, some_made}
use Rattle.jx_same.proofs.headers.compare_pictures.Goals as goal

pub returns-in-Some : goal.returns-in-Some
returns-in-Some c =
    let s = c.args.a.now.stream.now in
    let t = c.args.b.now.stream.now in
    let p = differs (meaning_in c.args.a.now) (meaning_in c.args.b.now) in
    let here = some_made (spot_of_component 0 0) (find (unlike_picture s.siz t.siz) picture_fields) c.unlike_picture.result _ c.in-Some.field c.spot_of_component.result
    (picture_found s t c.args.a.now.blocks.now c.args.b.now.blocks.now) c.unlike_picture.ensures c.in-Some.is c.spot_of_component.ensures in
    sym (before p (map (spot_of_component 0 0) picture_fields) (joined size_items 0 (length s.siz.comps)) c.spot_of_component.result here)

pub loop-comp-init : goal.loop-comp-init
loop-comp-init c = joined_begins (differs (meaning_in c.args.a.now) (meaning_in c.args.b.now)) size_items

pub returns-in-Some-compare_size : goal.returns-in-Some-compare_size
returns-in-Some-compare_size c =
    let s = c.args.a.now.stream.now in
    let t = c.args.b.now.stream.now in
    let p = differs (meaning_in c.args.a.now) (meaning_in c.args.b.now) in
    let none = none_made (spot_of_component 0 0) (find (unlike_picture s.siz t.siz) picture_fields) c.unlike_picture.result _
    (picture_found s t c.args.a.now.blocks.now c.args.b.now.blocks.now) c.unlike_picture.ensures (nothing c.unlike_picture.result (λ f is. c.in_default.not-Some f is)) in
    let inside : c.loop-comp.comp < length s.siz.comps = omega (arith, c.loop-comp-test.true, c.comps_of-comp-end.ensures) in
    let here = joined_stops p size_items c.loop-comp.comp (length s.siz.comps) c.in-Some-compare_size.spot c.loop-comp.invariant (sym c.compare_size.ensures ∙ c.in-Some-compare_size.is) inside in
    sym (behind p (map (spot_of_component 0 0) picture_fields) (joined size_items 0 (length s.siz.comps)) (Some c.in-Some-compare_size.spot) none here)

pub loop-comp-preserved : goal.loop-comp-preserved
loop-comp-preserved c =
    joined_goes (differs (meaning_in c.args.a.now) (meaning_in c.args.b.now)) size_items c.loop-comp.comp c.loop-comp.invariant
    (sym c.compare_size.ensures ∙ nothing c.compare_size.result (λ f is. c.in_default-compare_size.not-Some f is))

pub returns : goal.returns
returns c =
    let s = c.args.a.now.stream.now in
    let t = c.args.b.now.stream.now in
    let p = differs (meaning_in c.args.a.now) (meaning_in c.args.b.now) in
    let none = none_made (spot_of_component 0 0) (find (unlike_picture s.siz t.siz) picture_fields) c.unlike_picture.result _
    (picture_found s t c.args.a.now.blocks.now c.args.b.now.blocks.now) c.unlike_picture.ensures (nothing c.unlike_picture.result (λ f is. c.in_default.not-Some f is)) in
    let all : c.loop-comp.comp ≡ length s.siz.comps = omega (arith, c.comps_of-comp-end.ensures) in
    sym (behind p (map (spot_of_component 0 0) picture_fields) (joined size_items 0 (length s.siz.comps)) None none (ap (λ n. find p (joined size_items 0 n)) (sym all) ∙ c.loop-comp.invariant))
