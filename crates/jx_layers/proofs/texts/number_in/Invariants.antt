use Rattle.std.proofs.Common.{◌≡◌, ◌+◌, ◌-◌, find}
use Rattle.std.specs.Str.{bytes_eq}
use Rattle.std.specs.List.{range_with_len}
use Rattle.std.specs.Fmt.{decimal}
use Rattle.jx_layers.proofs.texts.number_in.Given as goal

abbrev pub invariant-loop-number : goal.invariant-loop-number
invariant-loop-number l =
    find (λ n. bytes_eq (decimal n) l.text) (range_with_len 1 l.most)
    ≡ find (λ n. bytes_eq (decimal n) l.text) (range_with_len l.number (l.most + 1 - l.number))
