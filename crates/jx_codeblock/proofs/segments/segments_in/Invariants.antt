use Rattle.std.proofs.Common.{◌≡◌, ◌≤◌, ◌++◌, map, take, drop, length}
use Rattle.jx_base.specs.Pieces.{value_of}
use Rattle.jx_codeblock.specs.Groups.{groups, groups_left}
use Rattle.jx_codeblock.specs.Tables.{bytes_joined}
use Rattle.jx_codeblock.proofs.segments.segments_in.Given as goal
use Rattle.jx_base.specs.Limits.{most_bytes}

abbrev pub invariant-loop-at : goal.invariant-loop-at
invariant-loop-at l = record {
  listed : l.segments ++ groups_left l.style.bits (take l.count l.rest) (map value_of (drop l.at l.pieces)) ≡ groups l.style.bits (map value_of l.pieces);
  behind : drop l.count l.rest ≡ bytes_joined (map value_of (drop l.at l.pieces));
  within : l.count ≤ length l.rest;
  long : length l.rest ≤ most_bytes;
}
