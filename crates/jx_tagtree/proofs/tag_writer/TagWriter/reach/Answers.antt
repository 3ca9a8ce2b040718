use Rattle.std.proofs.Common.{◌∙◌, ◌++◌, ap}
use Rattle.jx_tagtree.specs.TagTree.{Walk}
use Rattle.jx_tagtree.proofs.LeafLemmas.{told_nodes, told_values, told_is, told_keeps, told_after_is}
use Rattle.jx_tagtree.proofs.tag_writer.TagWriter.reach.Goals as goal

pub write_way-requires-clause-nodes : goal.write_way-requires-clause-nodes
write_way-requires-clause-nodes c = told_nodes c.self.inside.wide c.self.inside.high c.args.leaf c.args.threshold c.self.inside.values.items c.self.inside.nodes.items c.self.invariant.tree c.args.self.now c.self.view_is
    c.requires c.new-way.result c.new-way.ensures

pub write_way-requires-clause-values : goal.write_way-requires-clause-values
write_way-requires-clause-values c = told_values c.self.inside.wide c.self.inside.high c.args.leaf c.args.threshold c.self.inside.values.items c.self.inside.nodes.items c.self.invariant.tree c.args.self.now c.self.view_is
    c.requires c.new-way.result c.new-way.ensures c.deref-2.result.now c.deref-2.ensures.value

pub invariant_of-self : goal.invariant_of-self
invariant_of-self c = record {
  levels_are = c.self.invariant.levels_are;
  tree = told_keeps c.self.inside.wide c.self.inside.high c.args.leaf c.args.threshold c.self.inside.values.items c.self.inside.nodes.items c.self.invariant.tree c.args.self.now c.self.view_is
      c.requires c.new-way.result c.new-way.ensures c.write_way.new.nodes.items c.in_err-write_way.ensures.long;
}

pub invariant_of-self-2 : goal.invariant_of-self-2
invariant_of-self-2 c = record {
  levels_are = c.self.invariant.levels_are;
  tree = told_keeps c.self.inside.wide c.self.inside.high c.args.leaf c.args.threshold c.self.inside.values.items c.self.inside.nodes.items c.self.invariant.tree c.args.self.now c.self.view_is
      c.requires c.new-way.result c.new-way.ensures c.write_way.new.nodes.items c.in_ok-write_way.ensures.long;
}

pub returns-clause-bits : goal.returns-clause-bits
returns-clause-bits c = c.in_ok-write_way.ensures.bits ∙ ap (λ (w : Walk). c.args.bits.now ++ w.bits)
    (told_is c.self.inside.wide c.self.inside.high c.args.leaf c.args.threshold c.self.inside.values.items c.self.inside.nodes.items c.self.invariant.tree c.args.self.now c.self.view_is
    c.requires c.new-way.result c.new-way.ensures c.deref-2.result.now c.deref-2.ensures.value)

pub returns-clause-after : goal.returns-clause-after
returns-clause-after c = told_after_is c.self.inside.wide c.self.inside.high c.args.leaf c.args.threshold c.self.inside.values.items c.self.inside.nodes.items c.self.invariant.tree c.args.self.now c.self.view_is
    c.requires c.new-way.result c.new-way.ensures c.deref-2.result.now c.deref-2.ensures.value c.write_way.new.nodes.items c.in_ok-write_way.ensures.nodes
