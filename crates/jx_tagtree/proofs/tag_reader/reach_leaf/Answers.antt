use Rattle.std.proofs.Common.{refl}
use Rattle.jx_tagtree.proofs.OneLeafLemmas.{one_read, one_only, one_none, tree_one, values_one}
use Rattle.jx_tagtree.proofs.tag_reader.reach_leaf.Goals as goal

pub returns-in-Ok-clause-read : goal.returns-in-Ok-clause-read
returns-in-Ok-clause-read c =
    one_read c.args.node.now c.args.leaf c.args.threshold c.requires c.args.bits.now c.read_leaf.new.bits c.read_leaf.new.node c.in-Ok.below c.in-Ok.ensures.ok c.in-Ok.ensures.took

pub returns-in-Ok-clause-only : goal.returns-in-Ok-clause-only
returns-in-Ok-clause-only c = λ values v rest stands. (
  c.in-Ok.below,
  refl,
  one_only c.args.node.now c.args.leaf c.args.threshold c.requires c.args.bits.now c.read_leaf.new.bits c.read_leaf.new.node c.in-Ok.below c.in-Ok.ensures.ok c.in-Ok.ensures.took
      values v rest stands,
)

pub returns-in-Ok-clause-some : goal.returns-in-Ok-clause-some
returns-in-Ok-clause-some c = values_one c.read_leaf.new.node

pub returns-in-Ok-clause-tree : goal.returns-in-Ok-clause-tree
returns-in-Ok-clause-tree c = tree_one c.read_leaf.new.node

pub returns-in-Err-clause-only : goal.returns-in-Err-clause-only
returns-in-Err-clause-only c = λ values v rest stands. absurd (one_none c.args.node.now c.args.leaf c.args.threshold c.requires c.args.bits.now c.in-Err.ensures.err.0 values v rest stands)

pub returns-in-Err-clause-none : goal.returns-in-Err-clause-none
returns-in-Err-clause-none c = one_none c.args.node.now c.args.leaf c.args.threshold c.requires c.args.bits.now c.in-Err.ensures.err.0
