use Rattle.jx_cli.proofs.MakeLemmas.{has_make_words, words_may_be}
use Rattle.jx_cli.proofs.laws.make_has_words.Goals as goal

pub returns-clause-made : goal.returns-clause-made
returns-clause-made c = λ m may. has_make_words m may

pub returns-clause-asked : goal.returns-clause-asked
returns-clause-asked c = λ words good. words_may_be words
