use Rattle.jx_jp2.proofs.TreeLemmas.{has_tree}
use Rattle.jx_jp2.proofs.laws.some_tree.Goals as goal

pub returns : goal.returns
returns c = has_tree
