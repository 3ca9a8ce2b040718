use Rattle.std.proofs.Common.{◌≡◌, ◌<◌, ◌≤◌, ℕ, length, drop, get_or, min, cond}
use Rattle.jx_tagtree.specs.Leaves.{passes}
use Rattle.jx_tagtree.proofs.writing.lower.Given as goal

-- the values of the nodes that stand over this place are lowered
abbrev pub invariant-loop-place : goal.invariant-loop-place
invariant-loop-place l = record {
  within : l.place ≤ length l.way;
  long : length l.values.items ≡ length l.fn.values.items;
  each : (n : ℕ) → n < length l.fn.values.items → get_or l.values.items n 0
      ≡ cond (passes n (drop l.place l.way)) (min (get_or l.fn.values.items n 0) l.leaf) (get_or l.fn.values.items n 0);
}

abbrev pub decreases-loop-place : goal.decreases-loop-place
decreases-loop-place l = l.place
