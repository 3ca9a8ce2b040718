use Rattle.jx_generate.proofs.ShortLemmas.{file_short}
use Rattle.jx_generate.proofs.WellLemmas.{made_accepted, made_formed}
use Rattle.jx_generate.proofs.laws.made_is_well_formed.Goals as goal

pub returns-clause-formed : goal.returns-clause-formed
returns-clause-formed c seed w h sizes = made_formed seed w h sizes (file_short seed w h sizes)

pub returns-clause-accepted : goal.returns-clause-accepted
returns-clause-accepted c seed w h sizes = made_accepted seed w h sizes (file_short seed w h sizes)
