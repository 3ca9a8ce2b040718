use Rattle.jx_generate.proofs.ReadLemmas.{few_levels, few_precincts, one_number}
use Rattle.jx_generate.proofs.laws.made_geometry.Goals as goal

pub returns-clause-tiles : goal.returns-clause-tiles
returns-clause-tiles c = one_number

pub returns-clause-precincts : goal.returns-clause-precincts
returns-clause-precincts c = few_precincts

pub returns-clause-levels : goal.returns-clause-levels
returns-clause-levels c = few_levels
