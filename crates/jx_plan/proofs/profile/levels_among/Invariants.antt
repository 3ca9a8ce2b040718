use Rattle.std.proofs.Common.{◌≡◌, drop}
use Rattle.jx_codestream.specs.Tiles.{in_slot}
use Rattle.jx_plan.proofs.profile.levels_among.Given as goal

abbrev pub invariant-loop-segment : goal.invariant-loop-segment
invariant-loop-segment l = in_slot 1 l.segments ≡ in_slot 1 (drop l.segment-index l.segments)
