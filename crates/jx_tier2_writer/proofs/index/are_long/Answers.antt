use Rattle.jx_tier2_writer.proofs.IndexLemmas.{entry_long}
use Rattle.jx_tier2_writer.proofs.index.are_long.Goals as goal

pub returns : goal.returns
returns c = entry_long c.args.entries.now
