use Rattle.std.proofs.Common.{◌≡◌, ◌∙◌, ◌+◌, ℕ, ap, refl, sym, Option}
use Rattle.std.specs.List.{find}
use Rattle.std.proofs.lemmas.Result.{IfOk-weaker}
use Rattle.jx_base.specs.Joined.{joined}
use Rattle.jx_geom.specs.Geometry.{shape_of}
use Rattle.jx_codestream.specs.Params.{params_of}
use Rattle.jx_plan.specs.Meaning.{component_of}
use Rattle.jx_same.specs.declared.answer.Spot.{Spot}
use Rattle.jx_same.specs.Items.{coding_fields, coding_items, component_items, differs, resolution_items, spot_of_component}
use Rattle.jx_same.specs.Sides.{geometry_at, meaning_at, unlike_coding}
use Rattle.jx_same.proofs.FieldLemmas.{aligned_from, coding_found}
use Rattle.jx_same.proofs.FindLemmas.{before, behind, nothing}
use Rattle.jx_same.proofs.HeaderLemmas.{map_none}
use Rattle.jx_same.proofs.bands.compare_component.Goals as goal

pub returns-in-Some : goal.returns-in-Some
returns-in-Some g c =
    let a = c.args.a.now in
    let i = c.args.comp in
    let p = differs (meaning_at a) (meaning_at c.args.b.now) in
    let coefs = joined (resolution_items (geometry_at a) i) 0 ((shape_of (geometry_at a) i).levels + 1) in
    sym (before p (coding_items a.tile i) coefs c.in-Some.spot (sym c.compare_coding.ensures ∙ c.in-Some.is))

pub compare_resolutions-requires-clause-aligned : goal.compare_resolutions-requires-clause-aligned
compare_resolutions-requires-clause-aligned g c κs held =
    let a = c.args.a.now in
    let b = c.args.b.now in
    let i = c.args.comp in
    let found = find (unlike_coding (component_of (params_of a.stream a.tile i)) (component_of (params_of b.stream a.tile i))) coding_fields in
    let none = sym c.compare_coding.ensures ∙ nothing c.compare_coding.result (λ x e. c.in_default.not-Some x e) in
    aligned_from a b i c.requires.beside (map_none (spot_of_component a.tile i) found (sym (coding_found a.stream b.stream a.blocks b.blocks a.tile i) ∙ none))

pub returns : goal.returns
returns g c =
    let a = c.args.a.now in
    let i = c.args.comp in
    let p = differs (meaning_at a) (meaning_at c.args.b.now) in
    let items = coding_items a.tile i in
    let coefs = joined (resolution_items (geometry_at a) i) 0 ((shape_of (geometry_at a) i).levels + 1) in
    let none = sym c.compare_coding.ensures ∙ nothing c.compare_coding.result (λ x e. c.in_default.not-Some x e) in
    IfOk-weaker c.compare_resolutions.result (λ (r : Option Spot). r ≡ find p (joined (resolution_items (geometry_at a) i) 0 (c.levels.result + 1))) (λ (r : Option Spot). r ≡ find p (component_items (geometry_at a) i))
    (λ r h. h ∙ ap (λ (n : ℕ). find p (joined (resolution_items (geometry_at a) i) 0 (n + 1))) c.levels.ensures.value ∙ sym (behind p items coefs (find p coefs) none refl)) c.compare_resolutions.ensures
