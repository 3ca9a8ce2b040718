use Rattle.std.proofs.Common.{◌≡◌, ◌+◌, drop, map}
use Rattle.std.specs.List.{sum}
use Rattle.jx_workers.specs.Tapes.{size_of}
use Rattle.jx_base.specs.Limits.{most_bytes}
use Rattle.jx_rounds.proofs.crew.is_light.Given as goal

abbrev pub invariant-loop-job : goal.invariant-loop-job
invariant-loop-job l = l.left + sum (map size_of l.jobs) ≡ most_bytes + sum (map size_of (drop l.job-index l.jobs))
