use Rattle.std.proofs.Common.{◌≡◌, ◌+◌, drop, map}
use Rattle.std.specs.List.{sum}
use Rattle.jx_rounds.specs.Tiles.{segment_size}
use Rattle.jx_rounds.proofs.room.room_behind_segments.Given as goal

abbrev pub invariant-loop-segment : goal.invariant-loop-segment
invariant-loop-segment l = l.rest + sum (map segment_size l.segments) ≡ l.room + sum (map segment_size (drop l.segment-index l.segments))
