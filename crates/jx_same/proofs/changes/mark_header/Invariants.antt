use Rattle.std.proofs.Common.{◌≡◌, ℕ, Some, drop, false}
use Rattle.std.specs.List.{slice_get}
use Rattle.jx_codestream.specs.Index.{has_named}
use Rattle.jx_same.proofs.changes.mark_header.Given as goal

abbrev pub invariant-loop-segment : goal.invariant-loop-segment
invariant-loop-segment l = (c : ℕ) → slice_get l.marks c ≡ Some false
    → (slice_get l.initial.marks c ≡ Some false) × (has_named c (drop l.segment-index l.header) ≡ false → has_named c l.header ≡ false)
