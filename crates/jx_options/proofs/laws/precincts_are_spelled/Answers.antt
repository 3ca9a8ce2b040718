use Rattle.jx_options.proofs.SpellLemmas.{precincts_read, precincts_spelled}
use Rattle.jx_options.proofs.laws.precincts_are_spelled.Goals as goal

pub returns-clause-spelled : goal.returns-clause-spelled
returns-clause-spelled c = λ bytes are. precincts_spelled bytes are

pub returns-clause-read : goal.returns-clause-read
returns-clause-read c = λ text bytes is. precincts_read text bytes is
