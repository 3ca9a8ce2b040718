use Rattle.jx_tier1_specs.specs.Short.{AreShort}
use Rattle.jx_tier1_tests.proofs.walk_rows.gathered.Given as goal

abbrev pub invariant-loop-list : goal.invariant-loop-list
invariant-loop-list l = AreShort l.segments
