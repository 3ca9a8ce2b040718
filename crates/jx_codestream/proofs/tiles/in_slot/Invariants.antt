use Rattle.std.proofs.Common.{◌≡◌, drop}
use Rattle.jx_codestream.specs.Tiles.{in_slot}
use Rattle.jx_codestream.proofs.tiles.in_slot.Given as goal

abbrev pub invariant-loop-segment : goal.invariant-loop-segment
invariant-loop-segment l = in_slot l.slot l.segments ≡ in_slot l.slot (drop l.segment-index l.segments)
