use Rattle.std.proofs.Common.{◌≡◌, ◌++◌, drop, map}
use Rattle.std.specs.List.{concat}
use Rattle.jx_tier2_writer.proofs.whole.whole_parts.Given as goal

abbrev pub invariant-loop-part : goal.invariant-loop-part
invariant-loop-part l = map (λ v. v.items) l.parts.items ++ map concat (drop l.part l.out) ≡ map concat l.out
