use Rattle.std.proofs.Common.{◌≡◌, ◌⊎◌, ℕ, drop, false, true}
use Rattle.jx_codestream.specs.Index.{has_named}
use Rattle.jx_codestream.specs.Params.{has_too_few, quant_of, shape_of}
use Rattle.jx_codestream.proofs.checks.names_short.Given as goal

abbrev pub invariant-loop-segment : goal.invariant-loop-segment
invariant-loop-segment l = (comp : ℕ) → has_named comp l.segments ≡ true → (has_named comp (drop l.segment-index l.segments) ≡ true) ⊎ (has_too_few (quant_of l.tile.segments.now l.main.segments.now comp) (shape_of l.tile.segments.now l.main.segments.now comp) ≡ false)
