use Rattle.jx_tier1.proofs.ColumnLemmas.{columns_are}
use Rattle.jx_tier1.proofs.words.columns.Goals as goal

pub returns : goal.returns
returns c = columns_are c.args.own c.args.above c.args.below c.requires
