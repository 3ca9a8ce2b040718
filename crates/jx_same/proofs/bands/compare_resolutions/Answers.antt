use Rattle.std.proofs.Common.{◌∙◌, ◌+◌, ◌<◌, ◌≤◌, ℕ, subst, sym, arith}
use Rattle.jx_geom.specs.Geometry.{shape_of}
use Rattle.jx_codestream.proofs.RangeLemmas.{shapes_length}
use Rattle.jx_same.specs.Items.{differs, resolution_items}
use Rattle.jx_same.specs.Sides.{geometry_at, meaning_at}
use Rattle.jx_same.proofs.FindLemmas.{joined_begins, joined_goes, joined_stops, nothing}
use Rattle.jx_same.proofs.bands.compare_resolutions.Goals as goal

pub loop-res-init : goal.loop-res-init
loop-res-init g c = joined_begins (differs (meaning_at c.args.a.now) (meaning_at c.args.b.now)) (resolution_items (geometry_at c.args.a.now) c.args.comp)

pub compare_resolution-requires-clause-res : goal.compare_resolution-requires-clause-res
compare_resolution-requires-clause-res g c κs held =
    let a = c.args.a.now in
    let level : c.loop-res.res ≤ (shape_of (geometry_at a) c.args.comp).levels = omega (arith, c.loop-res-test.true, c.requires.levels) in
    record { component = subst (λ (n : ℕ). c.args.comp < n) (sym (shapes_length a.stream a.tile)) c.requires.comp; level = level }

pub returns-in-Some : goal.returns-in-Some
returns-in-Some g c =
    sym (joined_stops (differs (meaning_at c.args.a.now) (meaning_at c.args.b.now)) (resolution_items (geometry_at c.args.a.now) c.args.comp) c.loop-res.res (c.args.levels + 1) c.in-Some.spot
    c.loop-res.invariant (sym c.in_ok-spot.ensures ∙ c.in-Some.is) c.loop-res-test.true)

pub loop-res-preserved : goal.loop-res-preserved
loop-res-preserved g c =
    joined_goes (differs (meaning_at c.args.a.now) (meaning_at c.args.b.now)) (resolution_items (geometry_at c.args.a.now) c.args.comp) c.loop-res.res c.loop-res.invariant
    (sym c.in_ok-spot.ensures ∙ nothing c.in_ok-spot.field-0 (λ x is. c.in_default.not-Some x is))
