use Rattle.std.proofs.Common.{◌≡◌, ◌-◌, ℕ, nat_lt}
use Rattle.std.specs.List.{find, flat_map, range_with_len}
use Rattle.jx_codestream.specs.Params.{band_planes, quant_of, shape_of, shift_of}
use Rattle.jx_codestream.proofs.checks.tile_over.Given as goal

abbrev pub invariant-loop-comp : goal.invariant-loop-comp
invariant-loop-comp l = find (nat_lt 74) (flat_map (λ (comp : ℕ). band_planes (quant_of l.tile.segments.now l.main.segments.now comp) (shape_of l.tile.segments.now l.main.segments.now comp) (shift_of l.tile.segments.now l.main.segments.now comp)) (range_with_len 0 l.comps))
    ≡ find (nat_lt 74) (flat_map (λ (comp : ℕ). band_planes (quant_of l.tile.segments.now l.main.segments.now comp) (shape_of l.tile.segments.now l.main.segments.now comp) (shift_of l.tile.segments.now l.main.segments.now comp)) (range_with_len l.comp (l.comps - l.comp)))
