use Rattle.jx_packet_header.proofs.PacketLemmas.{stands_there}
use Rattle.jx_packet_header.proofs.laws.written_stands.Goals as goal

pub returns : goal.returns
returns c = stands_there
