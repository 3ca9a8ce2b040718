use Rattle.std.proofs.Common.{length}
use Rattle.jx_jp2.specs.declared.levels.Level.TheVariants as levels
use Rattle.jx_jp2.proofs.TreeLemmas.{one_tree, tree_or_fault, one_fault}
use Rattle.jx_jp2.proofs.laws.one_tree.Goals as goal

pub returns-clause-same : goal.returns-clause-same
returns-clause-same c = λ bytes first second f s. one_tree bytes levels.Top 0 (length bytes) first second f s

pub returns-clause-either : goal.returns-clause-either
returns-clause-either c = λ bytes tree number place f s. tree_or_fault bytes number place levels.Top 0 (length bytes) tree s.way f s.leads

pub returns-clause-fault : goal.returns-clause-fault
returns-clause-fault c = λ bytes number place number2 place2 f s. one_fault bytes number place number2 place2 levels.Top 0 (length bytes) f.way s.way f.leads s.leads
