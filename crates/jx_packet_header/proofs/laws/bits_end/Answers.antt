use Rattle.jx_packet_header.proofs.StuffedLemmas.{stuffed_or}
use Rattle.jx_packet_header.proofs.laws.bits_end.Goals as goal

pub returns : goal.returns
returns c = λ bytes. stuffed_or 0 bytes
