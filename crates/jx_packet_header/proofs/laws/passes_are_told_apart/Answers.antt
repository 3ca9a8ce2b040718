use Rattle.jx_packet_header.proofs.WordLemmas.{one_word}
use Rattle.jx_packet_header.proofs.laws.passes_are_told_apart.Goals as goal

pub returns : goal.returns
returns c = one_word
