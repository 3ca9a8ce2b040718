use Rattle.jx_packet_header.proofs.PacketLemmas.{one_header}
use Rattle.jx_packet_header.proofs.laws.one_reading.Goals as goal

pub returns : goal.returns
returns c = λ bytes k parts others used ends after others_after is p q. one_header bytes k parts others used ends after others_after is.bands p q
