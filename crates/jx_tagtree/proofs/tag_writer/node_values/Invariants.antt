use Rattle.jx_tagtree.proofs.LeafLemmas.{Lowered}
use Rattle.jx_tagtree.proofs.tag_writer.node_values.Given as goal

-- the values are lowered by the leaves so far
abbrev pub invariant-loop-leaf : goal.invariant-loop-leaf
invariant-loop-leaf l = Lowered l.wide l.high l.leaves l.leaf l.values.items
