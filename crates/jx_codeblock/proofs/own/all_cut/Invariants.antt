use Rattle.std.proofs.Common.{◌≡◌, drop}
use Rattle.jx_codeblock.specs.Tables.{are_cut}
use Rattle.jx_codeblock.proofs.own.all_cut.Given as goal

abbrev pub invariant-loop-end : goal.invariant-loop-end
invariant-loop-end l = are_cut l.style.bits l.passes (drop l.end-index l.ends) ≡ are_cut l.style.bits l.passes l.ends
