use Rattle.std.proofs.Common.{◌∙◌}
use Rattle.jx_tier2_reader.proofs.pieces.leaf_number.Goals as goal

pub returns : goal.returns
returns c = c.number.ensures ∙ c.requires.all.each c.args.block c.requires.block
