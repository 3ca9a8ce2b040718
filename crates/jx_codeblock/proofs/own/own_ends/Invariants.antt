use Rattle.std.proofs.Common.{◌≡◌, ◌≤◌, ◌+◌, ◌||◌, ℕ, map, drop, length, get_or, false}
use Rattle.jx_base.specs.Pieces.{value_of}
use Rattle.jx_codeblock.specs.Tables.{is_own_end}
use Rattle.jx_codeblock.proofs.own.own_ends.Given as goal

abbrev pub invariant-loop-at : goal.invariant-loop-at
invariant-loop-at l = record {
  long : length l.own.items ≡ l.passes + 1;
  each : (n : ℕ) → n ≤ l.passes → (get_or l.own.items n false || is_own_end (map value_of (drop l.at l.pieces)) n) ≡ is_own_end (map value_of l.pieces) n;
}
