use Rattle.jx_codeblock.proofs.MadeBlocks.{right_makes_some, wrong_makes_nothing}
use Rattle.jx_codeblock.proofs.laws.wrong_is_nothing.Goals as goal

pub returns-clause-wrong : goal.returns-clause-wrong
returns-clause-wrong c asked b ends wrong = wrong_makes_nothing asked b ends wrong

pub returns-clause-right : goal.returns-clause-right
returns-clause-right c asked b ends right = right_makes_some asked b ends right
