use Rattle.std.proofs.Common.{◌∙◌, ap, sym, List}
use Rattle.std.specs.List.{find, flat_map}
use Rattle.jx_base.specs.declared.names.Band.{Band}
use Rattle.jx_base.specs.declared.names.Band.TheVariants.{LL}
use Rattle.jx_tile.proofs.BandLemmas.{band_there}
use Rattle.jx_same.specs.Items.{band_items, differs}
use Rattle.jx_same.specs.Sides.{geometry_at, meaning_at}
use Rattle.jx_same.proofs.FindLemmas.{flat_goes, flat_stops, nothing}
use Rattle.jx_same.proofs.bands.compare_resolution.Goals as goal

pub compare_band-requires-clause-band : goal.compare_band-requires-clause-band
compare_band-requires-clause-band g c κs held = record {
  resolution = c.requires.res;
  band = band_there c.args.res c.of_resolution-bands.result.now c.loop-band.band-index LL c.of_resolution-bands.ensures c.loop-band-test.true;
}

pub returns-in-Some : goal.returns-in-Some
returns-in-Some g c =
    let p = differs (meaning_at c.args.a.now) (meaning_at c.args.b.now) in
    let f = band_items (geometry_at c.args.a.now) c.args.comp c.args.res in
    sym (ap (λ (bands : List Band). find p (flat_map f bands)) (sym c.of_resolution-bands.ensures)
    ∙ flat_stops p f c.of_resolution-bands.result.now c.loop-band.band-index LL c.in-Some.spot c.loop-band-test.true c.loop-band.invariant (sym c.in_ok-spot.ensures ∙ c.in-Some.is))

pub loop-band-preserved : goal.loop-band-preserved
loop-band-preserved g c =
    flat_goes (differs (meaning_at c.args.a.now) (meaning_at c.args.b.now)) (band_items (geometry_at c.args.a.now) c.args.comp c.args.res) c.of_resolution-bands.result.now
    c.loop-band.band-index LL c.loop-band-test.true c.loop-band.invariant (sym c.in_ok-spot.ensures ∙ nothing c.in_ok-spot.field-0 (λ x is. c.in_default.not-Some x is))
