use Rattle.std.proofs.Common.{◌∙◌, ◌<◌, ℕ, length, ap, subst, sym}
use Rattle.jx_geom.specs.Geometry.{Geometry, shape_of}
use Rattle.jx_codestream.proofs.RangeLemmas.{shapes_length}
use Rattle.jx_same.specs.Sides.{SideValue, geometry_at}
use Rattle.jx_same.proofs.side.Side.levels.Goals as goal

pub levels-requires : goal.levels-requires
levels-requires c =
    let s = c.self.inside.frame.stream in
    let t = c.self.inside.frame.number in
    let own = subst (λ (v : SideValue). c.args.comp < length v.stream.siz.comps) (sym c.self.view_is) c.requires in
    subst (λ (g : Geometry). c.args.comp < length g.shapes) (sym c.parts.ensures.geometry) (subst (λ (n : ℕ). c.args.comp < n) (sym (shapes_length s t)) own)

pub returns-clause-value : goal.returns-clause-value
returns-clause-value c =
    c.levels.ensures.value ∙ ap (λ (g : Geometry). (shape_of g c.args.comp).levels) c.parts.ensures.geometry ∙ ap (λ (v : SideValue). (shape_of (geometry_at v) c.args.comp).levels) c.self.view_is
