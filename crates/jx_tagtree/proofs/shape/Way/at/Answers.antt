use Rattle.std.proofs.Common.{◌<◌, ◌≤◌, arith, length}
use Rattle.jx_tagtree.proofs.ShapeLemmas.{at_inside, at_few, at_fits, at_is}
use Rattle.jx_tagtree.proofs.shape.Way.at.Goals as goal

pub bounds-levels-place : goal.bounds-levels-place
bounds-levels-place c = at_inside c.self.inside.levels.now c.self.inside.down c.self.inside.across c.args.self.now c.self.view_is c.args.place c.requires

pub offset_bounds-levels-place : goal.offset_bounds-levels-place
offset_bounds-levels-place c =
    let inside : c.args.place < length c.self.inside.levels.now = at_inside c.self.inside.levels.now c.self.inside.down c.self.inside.across c.args.self.now c.self.view_is c.args.place c.requires in
    let few : length c.self.inside.levels.now ≤ 23 = c.self.invariant.few in
    record { fits = omega arith }

pub halved-requires : goal.halved-requires
halved-requires c = at_few c.self.inside.levels.now c.self.inside.down c.self.inside.across c.args.self.now c.self.view_is c.args.place c.requires c.self.invariant

pub halved-requires-2 : goal.halved-requires-2
halved-requires-2 c = at_few c.self.inside.levels.now c.self.inside.down c.self.inside.across c.args.self.now c.self.view_is c.args.place c.requires c.self.invariant

pub node_of-requires : goal.node_of-requires
node_of-requires c = rw (c.halved.ensures, c.halved-2.ensures) (at_fits c.self.inside.levels.now c.self.inside.down c.self.inside.across c.args.self.now c.self.view_is c.args.place c.requires c.self.invariant)

pub returns : goal.returns
returns c = rw (c.node_of.ensures, c.halved.ensures, c.halved-2.ensures) (at_is c.self.inside.levels.now c.self.inside.down c.self.inside.across c.args.self.now c.self.view_is c.args.place c.requires)
