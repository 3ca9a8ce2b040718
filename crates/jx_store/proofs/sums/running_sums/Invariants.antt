use Rattle.std.proofs.Common.{◌≡◌, ◌≤◌, ◌+◌, length, take, vec_len, vec_capacity}
use Rattle.std.specs.List.{sum}
use Rattle.jx_store.specs.Sums.{sums_from}
use Rattle.jx_store.proofs.sums.running_sums.Given as goal

abbrev pub invariant-loop-size : goal.invariant-loop-size
invariant-loop-size l = record {
  sums : l.sums.items ≡ sums_from 0 (take l.size-index l.sizes);
  total : l.total ≡ sum (take l.size-index l.sizes);
  long : vec_len l.sums ≡ l.size-index + 1;
  room : length l.sizes + 1 ≤ vec_capacity l.sums;
}
