use Rattle.std.proofs.Common.{◌≡◌, map, take}
use Rattle.jx_same.proofs.segments.same_lists.Given as goal

abbrev pub invariant-loop-at : goal.invariant-loop-at
invariant-loop-at l = map (λ v. v.items) (take l.at l.a) ≡ map (λ v. v.items) (take l.at l.b)
