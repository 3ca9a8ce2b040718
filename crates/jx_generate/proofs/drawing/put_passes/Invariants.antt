use Rattle.std.proofs.Common.{◌≡◌, ◌-◌, ◌++◌}
use Rattle.jx_generate.specs.Drawn.{passes_bytes, past_passes}
use Rattle.jx_generate.proofs.drawing.put_passes.Given as goal

abbrev pub invariant-loop : goal.invariant-loop
invariant-loop l =
    (l.out.items ++ passes_bytes l.state (l.count - l.counter) ≡ l.initial.out.items ++ passes_bytes l.initial.state l.count)
    × (past_passes l.state (l.count - l.counter) ≡ past_passes l.initial.state l.count)
