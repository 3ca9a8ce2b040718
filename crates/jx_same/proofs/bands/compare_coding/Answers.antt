use Rattle.std.proofs.Common.{◌≡◌, ◌∙◌, ℕ, ap, sym}
use Rattle.std.specs.List.{find}
use Rattle.jx_codestream.specs.declared.Params.{Params}
use Rattle.jx_codestream.specs.Params.{params_of}
use Rattle.jx_plan.specs.Meaning.{component_of}
use Rattle.jx_same.specs.Items.{coding_fields, coding_items, differs, spot_of_component}
use Rattle.jx_same.specs.Sides.{meaning_at, unlike_coding}
use Rattle.jx_same.proofs.FieldLemmas.{coding_found}
use Rattle.jx_same.proofs.FindLemmas.{none_made, some_made}
use Rattle.jx_same.proofs.WithinLemmas.{none_coding}
use Rattle.jx_same.proofs.bands.compare_coding.Goals as goal

pub returns-then-same : goal.returns-then-same
returns-then-same c =
    let a = c.args.a.now in
    let b = c.args.b.now in
    let other = (c.requires.same c.if-same.true).component in
    sym (none_coding a.stream b.stream a.blocks b.blocks a.tile c.args.comp other)

pub returns-in-Some : goal.returns-in-Some
returns-in-Some c =
    let a = c.args.a.now in
    let b = c.args.b.now in
    let i = c.args.comp in
    let one = params_of a.stream a.tile i in
    let two = params_of b.stream a.tile i in
    let found = find (unlike_coding (component_of one) (component_of two)) coding_fields in
    let other = c.params-2.ensures ∙ ap (λ (t : ℕ). params_of b.stream t i) (sym c.requires.beside.tile) in
    let is : c.unlike_coding.result ≡ found = c.unlike_coding.ensures ∙ ap (λ (z : Params). find (unlike_coding (component_of z) (component_of c.params-2.result)) coding_fields) c.params.ensures
    ∙ ap (λ (z : Params). find (unlike_coding (component_of one) (component_of z)) coding_fields) other in
    let items = find (differs (meaning_at a) (meaning_at b)) (coding_items a.tile i) in
    let made = coding_found a.stream b.stream a.blocks b.blocks a.tile i in
    let own = c.spot_of_component.ensures ∙ ap (λ (t : ℕ). spot_of_component t i c.in-Some.field) c.tile.ensures.value in
    sym (some_made (spot_of_component a.tile i) found c.unlike_coding.result items c.in-Some.field c.spot_of_component.result made is c.in-Some.is own)

pub returns-in-None : goal.returns-in-None
returns-in-None c =
    let a = c.args.a.now in
    let b = c.args.b.now in
    let i = c.args.comp in
    let one = params_of a.stream a.tile i in
    let two = params_of b.stream a.tile i in
    let found = find (unlike_coding (component_of one) (component_of two)) coding_fields in
    let other = c.params-2.ensures ∙ ap (λ (t : ℕ). params_of b.stream t i) (sym c.requires.beside.tile) in
    let is : c.unlike_coding.result ≡ found = c.unlike_coding.ensures ∙ ap (λ (z : Params). find (unlike_coding (component_of z) (component_of c.params-2.result)) coding_fields) c.params.ensures
    ∙ ap (λ (z : Params). find (unlike_coding (component_of one) (component_of z)) coding_fields) other in
    let items = find (differs (meaning_at a) (meaning_at b)) (coding_items a.tile i) in
    let made = coding_found a.stream b.stream a.blocks b.blocks a.tile i in
    sym (none_made (spot_of_component a.tile i) found c.unlike_coding.result items made is c.in-None.is)
