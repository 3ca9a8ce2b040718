use Rattle.std.proofs.Common.{◌≡◌, ◌-◌, length}
use Rattle.std.specs.List.{find, range_with_len}
use Rattle.jx_tier2_reader.specs.Data.{is_marked}
use Rattle.jx_tier2_reader.proofs.data.first_mark.Given as goal

abbrev pub invariant-loop-i : goal.invariant-loop-i
invariant-loop-i l =
    find (is_marked l.bytes) (range_with_len l.i (length l.bytes - l.i)) ≡ find (is_marked l.bytes) (range_with_len 0 (length l.bytes))
