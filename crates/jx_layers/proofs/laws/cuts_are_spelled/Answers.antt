use Rattle.jx_layers.proofs.SpellLemmas.{cuts_spelled, cuts_read, cuts_fit}
use Rattle.jx_layers.proofs.laws.cuts_are_spelled.Goals as goal

pub returns-clause-spelled : goal.returns-clause-spelled
returns-clause-spelled c = λ list cuts. cuts_spelled list cuts

pub returns-clause-read : goal.returns-clause-read
returns-clause-read c = λ text list is. cuts_read text list is

pub returns-clause-fits : goal.returns-clause-fits
returns-clause-fits c = λ text facts. cuts_fit text facts
