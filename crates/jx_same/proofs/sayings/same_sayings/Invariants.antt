use Rattle.std.proofs.Common.{◌≡◌, ◌≤◌, drop, length}
use Rattle.jx_same.specs.Sayings.{sayings}
use Rattle.jx_same.proofs.sayings.same_sayings.Given as goal

abbrev pub invariant-loop-at : goal.invariant-loop-at
invariant-loop-at l = record {
  most : l.other ≤ length l.b;
  rest : sayings l.all (drop l.at l.a) ≡ sayings l.all (drop l.other l.b) → sayings l.all l.a ≡ sayings l.all l.b;
}
