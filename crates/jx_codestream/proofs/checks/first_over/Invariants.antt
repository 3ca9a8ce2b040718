use Rattle.std.proofs.Common.{◌≡◌, ◌-◌, nat_lt, map}
use Rattle.std.specs.List.{find, range_with_len}
use Rattle.jx_codestream.specs.Params.{planes_of, band_count}
use Rattle.jx_codestream.proofs.checks.first_over.Given as goal

abbrev pub invariant-loop-number : goal.invariant-loop-number
invariant-loop-number l = find (nat_lt 74) (map (planes_of l.quant l.levels l.shift) (range_with_len 0 (band_count l.levels))) ≡ find (nat_lt 74) (map (planes_of l.quant l.levels l.shift) (range_with_len l.number (l.count - l.number)))
