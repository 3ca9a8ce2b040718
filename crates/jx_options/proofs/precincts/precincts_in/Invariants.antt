use Rattle.std.proofs.Common.{◌≡◌, ◌-◌}
use Rattle.jx_options.specs.Parts.{goes_on}
use Rattle.jx_options.specs.Values.{item_in, parts_of, precincts_in}
use Rattle.jx_options.proofs.precincts.precincts_in.Given as goal

abbrev pub invariant-loop-turn : goal.invariant-loop-turn
invariant-loop-turn l = goes_on item_in l.bytes.items (33 - l._turn) (parts_of 44 l.rest) ≡ precincts_in l.text
