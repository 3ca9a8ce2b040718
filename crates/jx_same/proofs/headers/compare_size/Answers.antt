use Rattle.std.proofs.Common.{◌∙◌, ap, sym}
use Rattle.std.specs.List.{find}
use Rattle.jx_marker.specs.declared.CompSize.{CompSize}
use Rattle.jx_codestream.specs.Shapes.{size_in}
use Rattle.jx_same.specs.Items.{size_fields, spot_of_component}
use Rattle.jx_same.specs.Sides.{unlike_size}
use Rattle.jx_same.proofs.FieldLemmas.{size_found}
use Rattle.jx_same.proofs.FindLemmas.{none_made, some_made}
use Rattle.jx_same.proofs.headers.compare_size.Goals as goal

pub returns-in-Some : goal.returns-in-Some
returns-in-Some c =
    let s = c.args.a.now.stream.now in
    let t = c.args.b.now.stream.now in
    let i = c.args.comp in
    let is = c.unlike_size.ensures ∙ ap (λ (x : CompSize). find (unlike_size x c.size_at.result) size_fields) c.size_at-one.ensures
    ∙ ap (λ (x : CompSize). find (unlike_size (size_in s.siz i) x) size_fields) c.size_at.ensures in
    sym (some_made (spot_of_component 0 i) (find (unlike_size (size_in s.siz i) (size_in t.siz i)) size_fields) c.unlike_size.result _ c.in-Some.field c.spot_of_component.result
    (size_found s t c.args.a.now.blocks.now c.args.b.now.blocks.now i) is c.in-Some.is c.spot_of_component.ensures)

pub returns-in-None : goal.returns-in-None
returns-in-None c =
    let s = c.args.a.now.stream.now in
    let t = c.args.b.now.stream.now in
    let i = c.args.comp in
    let is = c.unlike_size.ensures ∙ ap (λ (x : CompSize). find (unlike_size x c.size_at.result) size_fields) c.size_at-one.ensures
    ∙ ap (λ (x : CompSize). find (unlike_size (size_in s.siz i) x) size_fields) c.size_at.ensures in
    sym (none_made (spot_of_component 0 i) (find (unlike_size (size_in s.siz i) (size_in t.siz i)) size_fields) c.unlike_size.result _
    (size_found s t c.args.a.now.blocks.now c.args.b.now.blocks.now i) is c.in-None.is)
