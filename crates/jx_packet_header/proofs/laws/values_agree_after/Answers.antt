use Rattle.jx_packet_header.proofs.PacketLemmas.{header_agrees_after}
use Rattle.jx_packet_header.proofs.laws.values_agree_after.Goals as goal

pub returns : goal.returns
returns c = header_agrees_after
