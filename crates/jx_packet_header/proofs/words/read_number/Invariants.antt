use Rattle.std.proofs.Common.{◌≡◌, ◌-◌}
use Rattle.jx_tagtree.specs.Header.{to_come}
use Rattle.jx_packet_header.specs.Frame.{frame}
use Rattle.jx_packet_header.proofs.WordLemmas.{Taking}
use Rattle.jx_packet_header.proofs.words.read_number.Given as goal

abbrev pub invariant-loop-taken : goal.invariant-loop-taken
invariant-loop-taken l = Taking l.width l.taken l.value (to_come l.initial.bits) (to_come l.bits) × (frame l.bits ≡ frame l.initial.bits)

abbrev pub decreases-loop-taken : goal.decreases-loop-taken
decreases-loop-taken l = l.width - l.taken
