use Rattle.jx_codestream.proofs.BandLemmas.{numbers, levels}
use Rattle.jx_codestream.proofs.laws.bands_are_numbered.Goals as goal

pub returns-clause-numbers : goal.returns-clause-numbers
returns-clause-numbers c = numbers

pub returns-clause-levels : goal.returns-clause-levels
returns-clause-levels c = levels
