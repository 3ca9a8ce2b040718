use Rattle.std.proofs.Common.{◌≡◌, drop}
use Rattle.jx_same.specs.Shared.{gives_some}
use Rattle.jx_same.proofs.tiles.gives_some.Given as goal

abbrev pub invariant-loop-segment : goal.invariant-loop-segment
invariant-loop-segment l = gives_some l.header ≡ gives_some (drop l.segment-index l.header)
