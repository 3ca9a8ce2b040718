use Rattle.jx_tagtree.proofs.OneLeafLemmas.{past_one}
use Rattle.jx_tagtree.proofs.tag_reader.past_leaf.Goals as goal

pub returns-clause-under : goal.returns-clause-under
returns-clause-under c = λ other lt. past_one c.args.node c.args.threshold other c.if-node.false c.if-threshold-node.false lt
