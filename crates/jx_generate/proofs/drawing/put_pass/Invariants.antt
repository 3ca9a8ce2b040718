use Rattle.std.proofs.Common.{◌≡◌, ◌-◌, ◌++◌}
use Rattle.jx_generate.specs.Random.{state_past}
use Rattle.jx_generate.proofs.DrawnLemmas.{bytes_left}
use Rattle.jx_generate.proofs.drawing.put_pass.Given as goal

abbrev pub invariant-loop-number : goal.invariant-loop-number
invariant-loop-number l =
    (l.out.items ++ bytes_left l.before l.state (l.count - l.number) ≡ l.initial.out.items ++ bytes_left 0 l.initial.state l.count)
    × (state_past l.state (l.count - l.number) ≡ state_past l.initial.state l.count)
