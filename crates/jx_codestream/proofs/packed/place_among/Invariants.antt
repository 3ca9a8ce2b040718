use Rattle.std.proofs.Common.{◌≡◌, ◌<◌, ℕ, nat_lt, false, get_or}
use Rattle.jx_codestream.specs.declared.packed.PackedSegment.{PackedSegment}
use Rattle.jx_codestream.proofs.packed.place_among.Given as goal

abbrev pub invariant-loop-place : goal.invariant-loop-place
invariant-loop-place l = (k : ℕ) (none : PackedSegment) → k < l.place → nat_lt l.index (get_or l.sorted k none).index ≡ false
