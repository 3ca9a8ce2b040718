use Rattle.std.proofs.Common.{◌≡◌, ◌++◌, drop}
use Rattle.jx_codeblock.specs.Recoding.{layer_parts_after}
use Rattle.jx_codeblock.specs.Tables.{at_place}
use Rattle.jx_codeblock.proofs.parts.all_parts.Given as goal

abbrev pub invariant-loop-end : goal.invariant-loop-end
invariant-loop-end l = l.parts.items ++ layer_parts_after l.style.bits (at_place l.table) l.first (drop l.end-index l.ends) ≡ layer_parts_after l.style.bits (at_place l.table) 0 l.ends
