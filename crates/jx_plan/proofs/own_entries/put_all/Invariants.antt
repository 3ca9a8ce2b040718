use Rattle.std.proofs.Common.{◌≡◌, map}
use Rattle.jx_plan.specs.Changes.{put_entries}
use Rattle.jx_plan.proofs.own_entries.put_all.Given as goal

abbrev pub invariant-loop-segment : goal.invariant-loop-segment
invariant-loop-segment l = l.all.items ≡ map (put_entries l.entries) l.yielded
