use Rattle.std.proofs.Common.{◌≡◌, ◌∙◌, refl, sym, Option}
use Rattle.std.specs.List.{find}
use Rattle.std.proofs.lemmas.Result.{IfOk-weaker}
use Rattle.jx_base.specs.Joined.{joined}
use Rattle.jx_base.specs.Places.{size_of}
use Rattle.jx_geom.specs.Geometry.{blocks_in}
use Rattle.jx_same.specs.declared.answer.Spot.{Spot}
use Rattle.jx_same.specs.Items.{band_items, block_items, differs, step_items}
use Rattle.jx_same.specs.Sides.{geometry_at, meaning_at}
use Rattle.jx_same.proofs.FindLemmas.{before, behind, nothing}
use Rattle.jx_same.proofs.bands.compare_band.Goals as goal

pub returns-in-Some : goal.returns-in-Some
returns-in-Some g c =
    let a = c.args.a.now in
    let n = c.args.name in
    let p = differs (meaning_at a) (meaning_at c.args.b.now) in
    let coefs = joined (block_items (geometry_at a) n.comp n.res n.band) 0 (size_of (blocks_in (geometry_at a) n.comp n.res n.band)) in
    sym (before p (step_items a.tile n.comp n.res n.band) coefs c.in-Some.spot (sym c.compare_step.ensures ∙ c.in-Some.is))

pub returns : goal.returns
returns g c =
    let a = c.args.a.now in
    let n = c.args.name in
    let p = differs (meaning_at a) (meaning_at c.args.b.now) in
    let items = step_items a.tile n.comp n.res n.band in
    let coefs = joined (block_items (geometry_at a) n.comp n.res n.band) 0 (size_of (blocks_in (geometry_at a) n.comp n.res n.band)) in
    let none = sym c.compare_step.ensures ∙ nothing c.compare_step.result (λ x e. c.in_default.not-Some x e) in
    IfOk-weaker c.compare_blocks.result (λ (r : Option Spot). r ≡ find p coefs) (λ (r : Option Spot). r ≡ find p (band_items (geometry_at a) n.comp n.res n.band))
    (λ r h. h ∙ sym (behind p items coefs (find p coefs) none refl)) c.compare_blocks.ensures
