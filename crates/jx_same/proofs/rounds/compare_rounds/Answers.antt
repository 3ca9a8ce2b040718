use Rattle.std.proofs.Common.{◌≡◌, ◌∙◌, ◌≤◌, arith, ap, sym}
use Rattle.std.specs.List.{find}
use Rattle.jx_base.specs.Joined.{joined}
use Rattle.jx_codestream.specs.First.{tile_number}
use Rattle.jx_same.specs.Items.{differs, tile_items}
use Rattle.jx_same.specs.Sides.{meaning_in}
use Rattle.jx_same.proofs.FindLemmas.{joined_begins, nothing}
use Rattle.jx_same.proofs.RunLemmas.{round_goes, round_stops}
use Rattle.jx_same.proofs.rounds.compare_rounds.Goals as goal

pub loop-low-init : goal.loop-low-init
loop-low-init g c = record {
  within = omega arith;
  none = joined_begins (differs (meaning_in c.args.a) (meaning_in c.args.b)) (tile_items c.args.a.stream.now);
}

pub returns-in-Some : goal.returns-in-Some
returns-in-Some g c =
    let p = differs (meaning_in c.args.a) (meaning_in c.args.b) in
    let f = tile_items c.args.a.stream.now in
    let cut = c.cut_evenly-cut.result in
    let le : c.loop-low.low ≤ cut.high = omega (arith, c.cut_evenly-cut.ensures.some) in
    let within : cut.high ≤ tile_number c.args.a.stream.now.siz = omega (arith, c.cut_evenly-cut.ensures.high, c.tile_count.ensures, c.from-tiles.ensures) in
    let from = ap (λ k. find p (joined f k cut.high)) c.cut_evenly-cut.ensures.from in
    sym (round_stops p f c.loop-low.low cut.high (tile_number c.args.a.stream.now.siz) c.in-Some.spot le within c.loop-low.invariant.none (sym from ∙ sym c.in_ok-spot.ensures ∙ c.in-Some.is))

pub loop-low-preserved : goal.loop-low-preserved
loop-low-preserved g c =
    let p = differs (meaning_in c.args.a) (meaning_in c.args.b) in
    let f = tile_items c.args.a.stream.now in
    let cut = c.cut_evenly-cut.result in
    let le : c.loop-low.low ≤ cut.high = omega (arith, c.cut_evenly-cut.ensures.some) in
    let from = ap (λ k. find p (joined f k cut.high)) c.cut_evenly-cut.ensures.from in
    record {
      within = omega (arith, c.cut_evenly-cut.ensures.high);
      none = round_goes p f c.loop-low.low cut.high le c.loop-low.invariant.none (sym from ∙ sym c.in_ok-spot.ensures ∙ nothing c.in_ok-spot.field-0 (λ x is. c.in_default.not-Some x is));
    }

pub returns : goal.returns
returns g c =
    let p = differs (meaning_in c.args.a) (meaning_in c.args.b) in
    let f = tile_items c.args.a.stream.now in
    let same : tile_number c.args.a.stream.now.siz ≡ c.loop-low.low = omega (arith, c.loop-low-test.false, c.loop-low.invariant.within, c.tile_count.ensures, c.from-tiles.ensures) in
    sym (ap (λ k. find p (joined f 0 k)) same ∙ c.loop-low.invariant.none)
