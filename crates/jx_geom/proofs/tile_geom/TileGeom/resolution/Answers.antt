use Rattle.std.proofs.Common.{◌∙◌, ap, sym, subst}
use Rattle.jx_geom.specs.declared.table.Resolution.{Resolution}
use Rattle.std.proofs.Common.{◌≤◌}
use Rattle.jx_geom.specs.Geometry.{Geometry, GeometryInRange, rect_of_tile}
use Rattle.jx_geom.proofs.TableLemmas.{table_is, table_entry, before_few}
use Rattle.jx_geom.proofs.tile_geom.TileGeom.resolution.Goals as goal
use Rattle.jx_base.specs.Limits.{most_blocks}

pub entry-requires-clause-place : goal.entry-requires-clause-place
entry-requires-clause-place c =
    let is = table_is c.self.inside.places c.self.inside.shapes (rect_of_tile c.args.self.now) c.args.self.now.shapes
    c.self.inside.table.places.items c.self.inside.table.list.items
    (c.self.invariant.1 ∙ ap (λ (g : Geometry). rect_of_tile g) c.self.view_is) (ap (λ (g : Geometry). g.shapes) c.self.view_is)
    c.self.invariant.2 c.self.invariant.3 in
    (table_entry (rect_of_tile c.args.self.now) c.args.self.now.shapes c.self.inside.table.places.items c.self.inside.table.list.items c.args.comp c.args.res
    is.0 is.1 c.requires.res.component c.requires.res.level c.requires.some).place

pub entry-requires-clause-there : goal.entry-requires-clause-there
entry-requires-clause-there c =
    let is = table_is c.self.inside.places c.self.inside.shapes (rect_of_tile c.args.self.now) c.args.self.now.shapes
    c.self.inside.table.places.items c.self.inside.table.list.items
    (c.self.invariant.1 ∙ ap (λ (g : Geometry). rect_of_tile g) c.self.view_is) (ap (λ (g : Geometry). g.shapes) c.self.view_is)
    c.self.invariant.2 c.self.invariant.3 in
    (table_entry (rect_of_tile c.args.self.now) c.args.self.now.shapes c.self.inside.table.places.items c.self.inside.table.list.items c.args.comp c.args.res
    is.0 is.1 c.requires.res.component c.requires.res.level c.requires.some).below

pub returns-clause-value : goal.returns-clause-value
returns-clause-value c =
    let is = table_is c.self.inside.places c.self.inside.shapes (rect_of_tile c.args.self.now) c.args.self.now.shapes
    c.self.inside.table.places.items c.self.inside.table.list.items
    (c.self.invariant.1 ∙ ap (λ (g : Geometry). rect_of_tile g) c.self.view_is) (ap (λ (g : Geometry). g.shapes) c.self.view_is)
    c.self.invariant.2 c.self.invariant.3 in
    (table_entry (rect_of_tile c.args.self.now) c.args.self.now.shapes c.self.inside.table.places.items c.self.inside.table.list.items c.args.comp c.args.res
    is.0 is.1 c.requires.res.component c.requires.res.level c.requires.some).only c.entry.result c.entry.ensures

pub returns-clause-range : goal.returns-clause-range
returns-clause-range c =
    let P : Geometry → Type 0 = λ g. GeometryInRange g in
    subst P c.self.view_is c.self.invariant.0

pub returns-clause-few : goal.returns-clause-few
returns-clause-few c =
    let is = table_is c.self.inside.places c.self.inside.shapes (rect_of_tile c.args.self.now) c.args.self.now.shapes
    c.self.inside.table.places.items c.self.inside.table.list.items
    (c.self.invariant.1 ∙ ap (λ (g : Geometry). rect_of_tile g) c.self.view_is) (ap (λ (g : Geometry). g.shapes) c.self.view_is)
    c.self.invariant.2 c.self.invariant.3 in
    let e = (table_entry (rect_of_tile c.args.self.now) c.args.self.now.shapes c.self.inside.table.places.items c.self.inside.table.list.items c.args.comp c.args.res
    is.0 is.1 c.requires.res.component c.requires.res.level c.requires.some).only c.entry.result c.entry.ensures in
    let P : Geometry → Type 0 = λ g. GeometryInRange g in
    let Q : Resolution → Type 0 = λ r. r.blocks_before ≤ most_blocks in
    subst Q (sym e) (before_few c.args.self.now c.args.comp c.args.res (subst P c.self.view_is c.self.invariant.0) c.requires.res)
