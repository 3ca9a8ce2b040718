use Rattle.std.proofs.Common.{◌≡◌, ℕ, Some, length}
use Rattle.std.specs.List.{slice_get}
use Rattle.jx_base.specs.declared.pieces.Block.{Block}
use Rattle.jx_same.proofs.shelf.put.Given as goal

abbrev pub invariant-loop-slot : goal.invariant-loop-slot
invariant-loop-slot l = record {
  long : length l.slots.items ≡ l._slot;
  kept : (i : ℕ) (b : Block) → slice_get l.slots.items i ≡ Some (Some b) → slice_get l.initial.slots.items i ≡ Some (Some b);
}
