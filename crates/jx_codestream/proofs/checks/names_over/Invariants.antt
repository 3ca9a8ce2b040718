use Rattle.std.proofs.Common.{◌≡◌, ◌⊎◌, ℕ, drop, nat_lt, true, None}
use Rattle.std.specs.List.{find}
use Rattle.jx_codestream.specs.Index.{has_named}
use Rattle.jx_codestream.specs.Params.{band_planes, quant_of, shape_of, shift_of}
use Rattle.jx_codestream.proofs.checks.names_over.Given as goal

abbrev pub invariant-loop-segment : goal.invariant-loop-segment
invariant-loop-segment l = (comp : ℕ) → has_named comp l.segments ≡ true → (has_named comp (drop l.segment-index l.segments) ≡ true) ⊎ (find (nat_lt 74) (band_planes (quant_of l.tile.segments.now l.main.segments.now comp) (shape_of l.tile.segments.now l.main.segments.now comp) (shift_of l.tile.segments.now l.main.segments.now comp)) ≡ None)
