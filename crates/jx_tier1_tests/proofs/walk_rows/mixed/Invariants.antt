use Rattle.jx_tier1_specs.specs.Short.{AreShort}
use Rattle.jx_tier1_tests.proofs.walk_rows.mixed.Given as goal

abbrev pub invariant-loop-pass : goal.invariant-loop-pass
invariant-loop-pass l = AreShort l.segments
