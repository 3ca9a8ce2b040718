use Rattle.jx_cli.proofs.MadeLemmas.{has_words}
use Rattle.jx_cli.proofs.WantedLemmas.{asked}
use Rattle.jx_cli.proofs.laws.requests_have_words.Goals as goal

pub returns-clause-made : goal.returns-clause-made
returns-clause-made c = λ r may. has_words r may

pub returns-clause-asked : goal.returns-clause-asked
returns-clause-asked c = λ words good. asked words
