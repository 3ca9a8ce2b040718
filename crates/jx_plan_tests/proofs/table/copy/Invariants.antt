use Rattle.std.proofs.Common.{◌≡◌, ◌++◌, drop}
use Rattle.jx_plan_tests.proofs.table.copy.Given as goal

abbrev pub invariant-loop-number : goal.invariant-loop-number
invariant-loop-number l = l.copy.items ++ drop l.number-index l.list ≡ l.list
