use Rattle.jx_packet_header.proofs.PacketLemmas.{written_one}
use Rattle.jx_packet_header.proofs.laws.written_read_back.Goals as goal

pub returns : goal.returns
returns c = written_one
