use Rattle.std.proofs.Common.{◌≡◌, ◌<◌, ℕ, false, slice_index_or}
use Rattle.jx_codestream.specs.Shapes.{no_size}
use Rattle.jx_reduce.specs.Unreducible.{passes_byte}
use Rattle.jx_reduce.proofs.choices.first_passing.Given as goal

abbrev pub invariant-loop-comp : goal.invariant-loop-comp
invariant-loop-comp l = (k : ℕ) → k < l.comp → passes_byte l.d (slice_index_or l.sizes k no_size) ≡ false
