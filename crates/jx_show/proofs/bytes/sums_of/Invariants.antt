use Rattle.std.proofs.Common.{◌≡◌, ◌≤◌, ◌<◌, ◌*◌, ℕ, length, take, get_or, sum_by}
use Rattle.jx_show.specs.Facts.{bytes_in_comp}
use Rattle.jx_show.proofs.bytes.sums_of.Given as goal
use Rattle.jx_base.specs.Limits.{most_bytes}

abbrev pub invariant-loop-block : goal.invariant-loop-block
invariant-loop-block l = record {
  count : length l.sums.items ≡ l.comps;
  each : (c : ℕ) → c < l.comps → get_or l.sums.items c 0 ≡ sum_by (bytes_in_comp c) (take l.block-index l.blocks);
  most : (c : ℕ) → c < l.comps → get_or l.sums.items c 0 ≤ l.block-index * most_bytes;
}
