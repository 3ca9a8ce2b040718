use Rattle.std.proofs.Common.{◌≡◌, ◌++◌, map, drop}
use Rattle.jx_tier1_specs.specs.Ends.{end_in}
use Rattle.jx_tier1.proofs.ends.tell.Given as goal

abbrev pub invariant-loop-stand : goal.invariant-loop-stand
invariant-loop-stand l =
    l.looked.items ++ map (λ s. end_in l.segment s) (drop l.stand-index l.stands)
    ≡ l.initial.looked.items ++ map (λ s. end_in l.segment s) l.stands
