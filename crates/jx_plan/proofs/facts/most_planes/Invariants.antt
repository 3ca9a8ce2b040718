use Rattle.std.proofs.Common.{◌≡◌, drop, max}
use Rattle.jx_plan.specs.Facts.{most_planes}
use Rattle.jx_plan.proofs.facts.most_planes.Given as goal

abbrev pub invariant-loop-block : goal.invariant-loop-block
invariant-loop-block l = max l.most (most_planes (drop l.block-index l.blocks)) ≡ most_planes l.blocks
