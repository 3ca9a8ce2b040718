use Rattle.jx_cli.proofs.BoxesLemmas.{has_boxes_words, words_may_be}
use Rattle.jx_cli.proofs.laws.boxes_have_words.Goals as goal

pub returns-clause-made : goal.returns-clause-made
returns-clause-made c = λ asked may. has_boxes_words asked may

pub returns-clause-asked : goal.returns-clause-asked
returns-clause-asked c = λ words good. words_may_be words
