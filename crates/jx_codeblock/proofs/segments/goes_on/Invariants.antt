use Rattle.std.proofs.Common.{◌≡◌, map, drop}
use Rattle.jx_base.specs.Pieces.{value_of}
use Rattle.jx_codeblock.specs.Groups.{goes_on}
use Rattle.jx_codeblock.proofs.segments.goes_on.Given as goal

abbrev pub invariant-loop-at : goal.invariant-loop-at
invariant-loop-at l = goes_on l.style.bits (map value_of (drop l.at l.pieces)) ≡ goes_on l.style.bits (map value_of l.pieces)
