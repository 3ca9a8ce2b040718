use Rattle.std.proofs.Common.{◌≡◌, map}
use Rattle.std.specs.List.{range_with_len}
use Rattle.jx_packet_header.specs.LeavesFit.{header_at}
use Rattle.jx_tier2_writer.proofs.sending.headers_of.Given as goal

abbrev pub invariant-loop-layer : goal.invariant-loop-layer
invariant-loop-layer l =
    (l.out ≡ record l.initial.out { next = l.layer })
    × (l.rows ≡ map (header_at l.layers l.initial.out.style l.initial.out.bands l.initial.out.leaves) (range_with_len 0 l.layer))
