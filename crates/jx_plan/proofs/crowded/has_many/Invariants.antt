use Rattle.std.proofs.Common.{drop}
use Rattle.jx_plan.specs.Layers.{HasMany}
use Rattle.jx_plan.proofs.crowded.has_many.Given as goal

abbrev pub invariant-loop-end : goal.invariant-loop-end
invariant-loop-end l = record {
  to : HasMany 0 l.ends → HasMany l.first (drop l.end-index l.ends);
  back : HasMany l.first (drop l.end-index l.ends) → HasMany 0 l.ends;
}
