use Rattle.std.proofs.Common.{◌≡◌, drop}
use Rattle.std.specs.Prelude.{max}
use Rattle.jx_codeblock.specs.Tables.{last_within}
use Rattle.jx_codeblock.proofs.own.last_within.Given as goal

abbrev pub invariant-loop-end : goal.invariant-loop-end
invariant-loop-end l = max l.last (last_within l.style.bits l.passes (drop l.end-index l.ends)) ≡ last_within l.style.bits l.passes l.ends
