use Rattle.jx_packet_header.proofs.AgreeLemmas.{written_is_read}
use Rattle.jx_packet_header.proofs.laws.written_is_read.Goals as goal

pub returns : goal.returns
returns c = written_is_read
