use Rattle.std.proofs.Common.{◌≡◌, ◌-◌, find}
use Rattle.std.specs.Str.{bytes_eq}
use Rattle.std.specs.List.{range_with_len}
use Rattle.jx_options.specs.Values.{item_in, item_text}
use Rattle.jx_options.proofs.precincts.item_in.Given as goal

abbrev pub invariant-loop-byte : goal.invariant-loop-byte
invariant-loop-byte l = item_in l.text ≡ find (λ byte. bytes_eq l.text (item_text byte)) (range_with_len l.byte (256 - l.byte))
