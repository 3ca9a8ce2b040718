use Rattle.std.proofs.Common.{◌≡◌, ◌∙◌, ◌<◌, ◌≤◌, map, ap, subst}
use Rattle.jx_geom.specs.Geometry.{Geometry}
use Rattle.jx_geom.specs.Leaves.{AreLeaves}
use Rattle.jx_geom.specs.Precincts.{leaf_number, leaves}
use Rattle.jx_generate.specs.Headers.{geometry_made}
use Rattle.jx_generate.specs.Making.{Making, count_drawn}
use Rattle.jx_generate.specs.Values.{drawn_of}
use Rattle.jx_generate.proofs.PictureLemmas.{leaf_there, leaves_few, precinct_in}
use Rattle.jx_generate.proofs.picture.Picture.numbers.Goals as goal
use Rattle.jx_base.specs.Limits.{most_blocks}

pub leaves-requires : goal.leaves-requires
leaves-requires c =
    precinct_in (record { seed = c.self.inside.seed; width = c.self.inside.width; height = c.self.inside.height }) c.self.inside.geom (map drawn_of c.self.inside.blocks.items) c.args.comp c.args.res
    c.self.invariant c.requires.comp c.requires.res

pub returns-clause-numbers : goal.returns-clause-numbers
returns-clause-numbers c =
    let same : c.self.inside.geom ≡ geometry_made c.args.self.now.width c.args.self.now.height =
    c.self.invariant.geometry_is ∙ ap (λ (m : Making). geometry_made m.width m.height) c.self.view_is in
    subst (λ (g : Geometry). AreLeaves g c.args.comp c.args.res 0 c.leaves.result) same c.leaves.ensures

pub returns-clause-few : goal.returns-clause-few
returns-clause-few c =
    subst (λ (m : Making). leaves (geometry_made m.width m.height) c.args.comp c.args.res 0 ≤ most_blocks) c.self.view_is
    (leaves_few (record { seed = c.self.inside.seed; width = c.self.inside.width; height = c.self.inside.height }) c.self.inside.geom (map drawn_of c.self.inside.blocks.items) c.args.comp c.args.res
    c.self.invariant c.requires.comp c.requires.res)

pub returns-clause-each : goal.returns-clause-each
returns-clause-each c j lt =
    let P : Making → Type 0 = λ m. j < leaves (geometry_made m.width m.height) c.args.comp c.args.res 0
    → leaf_number (geometry_made m.width m.height) c.args.comp c.args.res 0 j < count_drawn m.width m.height in
    subst P c.self.view_is
    (leaf_there (record { seed = c.self.inside.seed; width = c.self.inside.width; height = c.self.inside.height }) c.self.inside.geom (map drawn_of c.self.inside.blocks.items) c.args.comp c.args.res j
    c.self.invariant c.requires.comp c.requires.res) lt
