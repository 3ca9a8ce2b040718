use Rattle.std.proofs.Common.{◌≡◌, ℕ, [], length, map}
use Rattle.jx_same.specs.Lists.{bytes_at}
use Rattle.jx_same.proofs.segments.empty_lists.Given as goal

abbrev pub invariant-loop-number : goal.invariant-loop-number
invariant-loop-number l = record {
  long : length l.lists.items ≡ l._number;
  none : (i : ℕ) → bytes_at (map (λ v. v.items) l.lists.items) i ≡ [];
}
