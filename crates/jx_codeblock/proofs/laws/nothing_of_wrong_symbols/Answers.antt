use Rattle.jx_codeblock.proofs.AnewLemmas.{kept_some, right_some, wrong_none}
use Rattle.jx_codeblock.proofs.laws.nothing_of_wrong_symbols.Goals as goal

pub returns-clause-kept : goal.returns-clause-kept
returns-clause-kept c b ends = kept_some b ends

pub returns-clause-right : goal.returns-clause-right
returns-clause-right c b style ends right = right_some b style ends right

pub returns-clause-wrong : goal.returns-clause-wrong
returns-clause-wrong c b style ends wrong = wrong_none b style ends wrong
