use Rattle.std.proofs.Common.{◌*◌, ◌<◌, refl, sym, subst}
use Rattle.jx_tagtree.specs.TagTree.{Tree}
use Rattle.jx_tagtree.specs.Header.{to_come}
use Rattle.jx_tagtree.proofs.TagLemmas.{call_way, call_part, call_keeps, call_read, call_only, call_none, tree_of}
use Rattle.jx_tagtree.proofs.QuestionLemmas.{known_values}
use Rattle.jx_tagtree.proofs.read_tree.ReadTree.reach.Goals as goal

pub new-way-requires-clause-leaf : goal.new-way-requires-clause-leaf
new-way-requires-clause-leaf c = subst (λ (t : Tree). c.args.leaf < t.wide * t.high) (sym c.self.view_is) c.requires

pub new-way-requires-clause-shape : goal.new-way-requires-clause-shape
new-way-requires-clause-shape c = c.self.invariant.tree.shape

pub read_way-requires : goal.read_way-requires
read_way-requires c = call_way c.self.inside.wide c.self.inside.high c.args.leaf c.args.threshold c.self.inside.nodes.items c.self.invariant.tree c.args.self.now c.self.view_is c.requires
    c.new-way.result c.new-way.ensures

pub invariant_of-self : goal.invariant_of-self
invariant_of-self c = record {
  tree = call_part c.self.inside.wide c.self.inside.high c.args.leaf c.args.threshold c.self.inside.nodes.items c.self.invariant.tree c.args.self.now c.self.view_is c.requires
      c.new-way.result c.new-way.ensures (to_come c.args.bits.now) c.read_way.new.nodes.items c.in-Err.ensures.part;
  levels_are = c.self.invariant.levels_are;
}

pub invariant_of-self-2 : goal.invariant_of-self-2
invariant_of-self-2 c = record {
  tree = call_keeps c.self.inside.wide c.self.inside.high c.args.leaf c.args.threshold c.self.inside.nodes.items c.self.invariant.tree c.args.self.now c.self.view_is c.requires
      c.new-way.result c.new-way.ensures (to_come c.args.bits.now) (to_come c.read_way.new.bits) c.read_way.new.nodes.items c.in-Ok.ensures.ok.known c.in-Ok.ensures.ok.read;
  levels_are = c.self.invariant.levels_are;
}

pub returns-clause-read : goal.returns-clause-read
returns-clause-read c = call_read c.self.inside.wide c.self.inside.high c.args.leaf c.args.threshold c.self.inside.nodes.items c.self.invariant.tree c.args.self.now c.self.view_is c.requires
    c.new-way.result c.new-way.ensures c.args.bits.now c.read_way.new.bits c.read_way.new.nodes.items c.in-Ok.below
    c.in-Ok.ensures.ok c.in-Ok.ensures.took

pub returns-clause-only : goal.returns-clause-only
returns-clause-only c = λ values v rest stands. (
  c.in-Ok.below,
  refl,
  call_read c.self.inside.wide c.self.inside.high c.args.leaf c.args.threshold c.self.inside.nodes.items c.self.invariant.tree c.args.self.now c.self.view_is c.requires
      c.new-way.result c.new-way.ensures c.args.bits.now c.read_way.new.bits c.read_way.new.nodes.items c.in-Ok.below c.in-Ok.ensures.ok c.in-Ok.ensures.took values
      (call_only c.self.inside.wide c.self.inside.high c.args.leaf c.args.threshold c.self.inside.nodes.items c.self.invariant.tree c.args.self.now c.self.view_is c.requires
      c.new-way.result c.new-way.ensures c.args.bits.now c.read_way.new.bits c.read_way.new.nodes.items c.in-Ok.ensures.ok.known c.in-Ok.ensures.ok.read values v rest stands),
)

pub returns-clause-tree : goal.returns-clause-tree
returns-clause-tree c =
    let k = call_keeps c.self.inside.wide c.self.inside.high c.args.leaf c.args.threshold c.self.inside.nodes.items c.self.invariant.tree c.args.self.now c.self.view_is c.requires
    c.new-way.result c.new-way.ensures (to_come c.args.bits.now) (to_come c.read_way.new.bits) c.read_way.new.nodes.items c.in-Ok.ensures.ok.known c.in-Ok.ensures.ok.read in
    record { nodes = k.long; sound = k.sound }

pub returns-clause-some : goal.returns-clause-some
returns-clause-some c =
    let k = call_keeps c.self.inside.wide c.self.inside.high c.args.leaf c.args.threshold c.self.inside.nodes.items c.self.invariant.tree c.args.self.now c.self.view_is c.requires
    c.new-way.result c.new-way.ensures (to_come c.args.bits.now) (to_come c.read_way.new.bits) c.read_way.new.nodes.items c.in-Ok.ensures.ok.known c.in-Ok.ensures.ok.read in
    known_values (tree_of c.self.inside.wide c.self.inside.high c.read_way.new.nodes.items) (record { nodes = k.long; sound = k.sound })

pub returns-in-Err-clause-only : goal.returns-in-Err-clause-only
returns-in-Err-clause-only c = λ values v rest stands. absurd
    (call_none c.self.inside.wide c.self.inside.high c.args.leaf c.args.threshold c.self.inside.nodes.items c.self.invariant.tree c.args.self.now c.self.view_is c.requires
    c.new-way.result c.new-way.ensures c.args.bits.now c.in-Err.ensures.err.0 values v rest stands)

pub returns-in-Err-clause-none : goal.returns-in-Err-clause-none
returns-in-Err-clause-none c = call_none c.self.inside.wide c.self.inside.high c.args.leaf c.args.threshold c.self.inside.nodes.items c.self.invariant.tree c.args.self.now c.self.view_is c.requires
    c.new-way.result c.new-way.ensures c.args.bits.now c.in-Err.ensures.err.0
