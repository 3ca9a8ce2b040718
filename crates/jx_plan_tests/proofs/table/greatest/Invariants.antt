use Rattle.std.proofs.Common.{◌≡◌, drop, max}
use Rattle.jx_layers.specs.Rule.{greatest}
use Rattle.jx_plan_tests.proofs.table.greatest.Given as goal

abbrev pub invariant-loop-number : goal.invariant-loop-number
invariant-loop-number l = max l.most (greatest (drop l.number-index l.list)) ≡ greatest l.list
