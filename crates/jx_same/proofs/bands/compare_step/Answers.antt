use Rattle.std.proofs.Common.{◌≡◌, ◌∙◌, ◌≤◌, ℕ, ap, subst, sym}
use Rattle.std.specs.List.{find}
use Rattle.jx_geom.specs.declared.shape.CompShape.{CompShape}
use Rattle.jx_codestream.specs.Params.{step_of}
use Rattle.jx_same.specs.Items.{differs, spot_of_band, step_fields, step_items}
use Rattle.jx_same.specs.Sides.{meaning_at, unlike_step}
use Rattle.jx_same.proofs.BlockLemmas.{shape_is, there_in}
use Rattle.jx_same.proofs.FieldLemmas.{step_found}
use Rattle.jx_same.proofs.FindLemmas.{none_made, some_made}
use Rattle.jx_same.proofs.WithinLemmas.{none_step}
use Rattle.jx_same.proofs.bands.compare_step.Goals as goal

pub returns-then-same : goal.returns-then-same
returns-then-same c =
    let a = c.args.a.now in
    let b = c.args.b.now in
    let n = c.args.name in
    let lt = there_in a.stream a.tile n.comp n.res c.requires.band.resolution in
    let level = subst (λ (k : ℕ). n.res ≤ k) (ap (λ (z : CompShape). z.levels) (shape_is a.stream a.tile n.comp lt)) c.requires.band.resolution.level in
    let other = (c.requires.same c.if-same.true).step n.res n.band level c.requires.band.band in
    sym (none_step a.stream b.stream a.blocks b.blocks a.tile n.comp n.res n.band other)

pub returns-in-Some : goal.returns-in-Some
returns-in-Some c =
    let a = c.args.a.now in
    let b = c.args.b.now in
    let n = c.args.name in
    let one = step_of a.stream a.tile n.comp n.res n.band in
    let two = step_of b.stream a.tile n.comp n.res n.band in
    let found = find (unlike_step one two) step_fields in
    let other = c.step-2.ensures ∙ ap (λ (t : ℕ). step_of b.stream t n.comp n.res n.band) (sym c.requires.beside.tile) in
    let is : c.unlike_step.result ≡ found = c.unlike_step.ensures ∙ ap (λ (z : ℕ × ℕ). find (unlike_step z c.step-2.result) step_fields) c.step.ensures
    ∙ ap (λ (z : ℕ × ℕ). find (unlike_step one z) step_fields) other in
    let items = find (differs (meaning_at a) (meaning_at b)) (step_items a.tile n.comp n.res n.band) in
    let made = step_found a.stream b.stream a.blocks b.blocks a.tile n.comp n.res n.band in
    let own = c.spot_of_band.ensures ∙ ap (λ (t : ℕ). spot_of_band t n.comp n.res n.band c.in-Some.field) c.tile.ensures.value in
    sym (some_made (spot_of_band a.tile n.comp n.res n.band) found c.unlike_step.result items c.in-Some.field c.spot_of_band.result made is c.in-Some.is own)

pub returns-in-None : goal.returns-in-None
returns-in-None c =
    let a = c.args.a.now in
    let b = c.args.b.now in
    let n = c.args.name in
    let one = step_of a.stream a.tile n.comp n.res n.band in
    let two = step_of b.stream a.tile n.comp n.res n.band in
    let found = find (unlike_step one two) step_fields in
    let other = c.step-2.ensures ∙ ap (λ (t : ℕ). step_of b.stream t n.comp n.res n.band) (sym c.requires.beside.tile) in
    let is : c.unlike_step.result ≡ found = c.unlike_step.ensures ∙ ap (λ (z : ℕ × ℕ). find (unlike_step z c.step-2.result) step_fields) c.step.ensures
    ∙ ap (λ (z : ℕ × ℕ). find (unlike_step one z) step_fields) other in
    let items = find (differs (meaning_at a) (meaning_at b)) (step_items a.tile n.comp n.res n.band) in
    let made = step_found a.stream b.stream a.blocks b.blocks a.tile n.comp n.res n.band in
    sym (none_made (spot_of_band a.tile n.comp n.res n.band) found c.unlike_step.result items made is c.in-None.is)
