use Rattle.std.proofs.Common.{◌∙◌, ◌<◌, ℕ, List, length, ap, subst, sym}
use Rattle.jx_geom.specs.declared.shape.CompShape.{CompShape}
use Rattle.jx_codestream.specs.Shapes.{shapes_in, shapes_of}
use Rattle.jx_codestream.proofs.RangeLemmas.{shapes_length}
use Rattle.jx_same.specs.Sides.{SideValue}
use Rattle.jx_same.proofs.side.Side.is_empty_after.Goals as goal

pub is_empty_after-requires-clause-comp : goal.is_empty_after-requires-clause-comp
is_empty_after-requires-clause-comp c =
    let s = c.self.inside.frame.stream in
    let t = c.self.inside.frame.number in
    let shapes = c.shapes.ensures.value ∙ ap shapes_in c.parts.ensures.view in
    let own = subst (λ (v : SideValue). c.args.comp < length v.stream.siz.comps) (sym c.self.view_is) c.requires.comp in
    let there = subst (λ (n : ℕ). c.args.comp < n) (sym (shapes_length s t)) own in
    subst (λ (xs : List CompShape). c.from.result < length xs) (sym shapes) (subst (λ (k : ℕ). k < length (shapes_of s t)) (sym c.from.ensures) there)
