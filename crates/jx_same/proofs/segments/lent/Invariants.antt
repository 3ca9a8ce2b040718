use Rattle.std.proofs.Common.{◌≡◌, ◌++◌, map, drop}
use Rattle.jx_same.proofs.segments.lent.Given as goal

abbrev pub invariant-loop-list : goal.invariant-loop-list
invariant-loop-list l = l.segments ++ map (λ v. v.items) (drop l.list-index l.lists) ≡ map (λ v. v.items) l.lists
