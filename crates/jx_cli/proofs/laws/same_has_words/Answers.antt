use Rattle.jx_cli.proofs.SameLemmas.{has_same_words, words_may_be}
use Rattle.jx_cli.proofs.laws.same_has_words.Goals as goal

pub returns-clause-made : goal.returns-clause-made
returns-clause-made c = λ names may. has_same_words names may

pub returns-clause-asked : goal.returns-clause-asked
returns-clause-asked c = λ words good. words_may_be words
