use Rattle.jx_options.proofs.NumberLemmas.{number_spelled}
use Rattle.jx_options.proofs.laws.numbers_are_spelled.Goals as goal
use Rattle.jx_base.proofs.Texts.{number_read}

pub returns-clause-spelled : goal.returns-clause-spelled
returns-clause-spelled c = λ most n few some within. number_spelled most n few some within

pub returns-clause-read : goal.returns-clause-read
returns-clause-read c = λ most n text is. number_read most n text is
