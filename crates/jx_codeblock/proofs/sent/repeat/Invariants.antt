use Rattle.std.proofs.Common.{◌≡◌, ◌++◌, ◌-◌, replicate}
use Rattle.jx_codeblock.proofs.sent.repeat.Given as goal

abbrev pub invariant-loop : goal.invariant-loop
invariant-loop l = l.table.items ++ replicate (l.count - l.counter) l.number ≡ l.initial.table.items ++ replicate l.count l.number
