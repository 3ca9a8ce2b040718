use Rattle.std.proofs.Common.{◌≡◌, ◌-◌, ℕ}
use Rattle.std.specs.List.{list_any, range_with_len}
use Rattle.jx_codestream.specs.Params.{has_too_few, quant_of, shape_of}
use Rattle.jx_codestream.proofs.checks.has_too_few.Given as goal

abbrev pub invariant-loop-comp : goal.invariant-loop-comp
invariant-loop-comp l = list_any (λ (comp : ℕ). has_too_few (quant_of l.tile.segments.now l.main.segments.now comp) (shape_of l.tile.segments.now l.main.segments.now comp)) (range_with_len 0 l.comps)
    ≡ list_any (λ (comp : ℕ). has_too_few (quant_of l.tile.segments.now l.main.segments.now comp) (shape_of l.tile.segments.now l.main.segments.now comp)) (range_with_len l.comp (l.comps - l.comp))
