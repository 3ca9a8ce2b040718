use Rattle.jx_packet_header.proofs.PacketLemmas.{planes_or_packet}
use Rattle.jx_packet_header.proofs.laws.planes_or_packet.Goals as goal

pub returns : goal.returns
returns c = λ bytes k parts used after is x p. planes_or_packet bytes k parts used after is.bands x p
