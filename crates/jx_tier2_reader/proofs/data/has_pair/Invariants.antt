use Rattle.std.proofs.Common.{◌≡◌, ◌-◌, ◌||◌, length, is_some}
use Rattle.std.specs.List.{find, range_with_len}
use Rattle.jx_tier2_reader.specs.Data.{is_marked, has_mark_below}
use Rattle.jx_tier2_reader.proofs.data.has_pair.Given as goal

abbrev pub invariant-loop-i : goal.invariant-loop-i
invariant-loop-i l =
    (l.found || is_some (find (is_marked l.bytes) (range_with_len (l.i - 1) (length l.bytes - l.i)))) ≡ has_mark_below l.bytes (length l.bytes - 1)
