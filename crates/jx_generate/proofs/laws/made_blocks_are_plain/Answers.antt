use Rattle.jx_generate.proofs.PlainLemmas.{all_plain}
use Rattle.jx_generate.proofs.laws.made_blocks_are_plain.Goals as goal

pub returns : goal.returns
returns c = all_plain
