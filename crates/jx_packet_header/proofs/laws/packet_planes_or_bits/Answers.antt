use Rattle.jx_packet_header.proofs.StopBandLemmas.{one_of_three, no_packet, no_planes}
use Rattle.jx_packet_header.proofs.laws.packet_planes_or_bits.Goals as goal

pub returns-clause-some : goal.returns-clause-some
returns-clause-some c = λ bytes k is. one_of_three bytes k is.bands

pub returns-clause-no_packet : goal.returns-clause-no_packet
returns-clause-no_packet c = λ bytes k parts used after is. no_packet bytes k parts used after is.bands

pub returns-clause-no_planes : goal.returns-clause-no_planes
returns-clause-no_planes c = λ bytes k is. no_planes bytes k is.bands
