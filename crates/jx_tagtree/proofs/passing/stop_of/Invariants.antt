use Rattle.std.specs.Prelude.{IfSome}
use Rattle.jx_tagtree.proofs.PastLemmas.{Near}
use Rattle.jx_tagtree.proofs.passing.stop_of.Given as goal

abbrev pub invariant-loop-place : goal.invariant-loop-place
invariant-loop-place l = IfSome l.stop (Near l.nodes l.way l.threshold l.place)
