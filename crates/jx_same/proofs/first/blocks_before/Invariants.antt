use Rattle.std.proofs.Common.{◌≤◌, ◌-◌, ℕ, length}
use Rattle.jx_same.specs.Runs.{AreBlocksBelow}
use Rattle.jx_same.proofs.first.blocks_before.Given as goal

abbrev pub invariant-loop-low : goal.invariant-loop-low
invariant-loop-low l = record {
  order : l.low ≤ l.high;
  inside : l.high ≤ length l.blocks;
  around : (count : ℕ) → AreBlocksBelow l.blocks l.tile count → (l.low ≤ count) × (count ≤ l.high);
}

abbrev pub decreases-loop-low : goal.decreases-loop-low
decreases-loop-low l = l.high - l.low
