use Rattle.std.proofs.Common.{◌≡◌, drop}
use Rattle.jx_codestream.specs.Headers.{cod_slot}
use Rattle.jx_codestream.specs.Tiles.{in_slot}
use Rattle.jx_show.proofs.orders.cod_entry.Given as goal

abbrev pub invariant-loop-segment : goal.invariant-loop-segment
invariant-loop-segment l = in_slot cod_slot l.segments ≡ in_slot cod_slot (drop l.segment-index l.segments)
