use Rattle.jx_tier2_writer.proofs.SentLemmas.{block_there, bytes_there}
use Rattle.jx_tier2_writer.proofs.block_parts.block_at.Goals as goal

pub returns-clause-block : goal.returns-clause-block
returns-clause-block g c = block_there g.B.Coded.block c.args.values.now c.args.block _ c.requires c.index-values-block.is

pub returns-clause-bytes : goal.returns-clause-bytes
returns-clause-bytes g c = bytes_there g.B.Coded.bytes c.args.values.now c.args.block _ c.requires c.index-values-block.is
