use Rattle.jx_tier2_writer.proofs.FewLemmas.{few_packets}
use Rattle.jx_tier2_writer.proofs.laws.tile_has_few_packets.Goals as goal

pub returns : goal.returns
returns c = few_packets
