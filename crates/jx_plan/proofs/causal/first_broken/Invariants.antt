use Rattle.std.proofs.Common.{◌≡◌, ◌+◌, drop}
use Rattle.std.specs.List.{position_or_len}
use Rattle.jx_plan.specs.Causal.{breaks_plane}
use Rattle.jx_plan.proofs.causal.first_broken.Given as goal

abbrev pub invariant-loop-number : goal.invariant-loop-number
invariant-loop-number l = position_or_len (breaks_plane l.asked) l.blocks ≡ l.number + position_or_len (breaks_plane l.asked) (drop l.number l.blocks)
