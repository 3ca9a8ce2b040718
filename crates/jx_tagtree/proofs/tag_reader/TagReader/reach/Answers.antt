use Rattle.std.proofs.Common.{◌∙◌, ap, sym}
use Rattle.jx_tagtree.specs.declared.tag_reader.TagReader.TheInside.{Inside}
use Rattle.jx_tagtree.specs.Forms.{one_leaf, tree_in}
use Rattle.jx_tagtree.proofs.OneLeafLemmas.{reads_as}
use Rattle.jx_tagtree.proofs.tag_reader.TagReader.reach.Goals as goal
use Rattle.jx_tagtree.proofs.tag_reader.TagReader.reach.Goals.{in-Leaf, in-More}

pub returns-clause-read : goal.returns-clause-read
returns-clause-read c = elim c.match-self.branch [
  | in-Leaf w ↦
      reads_as c.args.leaf c.args.threshold c.args.bits.now c.match-self.result w.reach_leaf.result c.args.self.now (one_leaf w.in-Leaf.node)
      (tree_in c.match-self.self-inside.form) (one_leaf w.reach_leaf.new.node) c.match-self.bits w.reach_leaf.new.bits
      w.result-is (sym c.self.view_is ∙ ap tree_in w.in-Leaf.is) (ap (λ (i : Inside). tree_in i.form) w.self-inside-is) w.bits-is w.reach_leaf.ensures.read
  | in-More w ↦
      reads_as c.args.leaf c.args.threshold c.args.bits.now c.match-self.result w.reach.result c.args.self.now w.deref_mut.result.now
      (tree_in c.match-self.self-inside.form) w.reach.new.self c.match-self.bits w.reach.new.bits
      w.result-is (sym c.self.view_is ∙ ap tree_in w.in-More.is ∙ sym w.deref_mut.ensures.value) (ap (λ (i : Inside). tree_in i.form) w.self-inside-is) w.bits-is w.reach.ensures.read
]
