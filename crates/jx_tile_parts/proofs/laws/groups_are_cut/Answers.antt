use Rattle.jx_tile_parts.proofs.GroupLemmas.{empty_group, groups_agree, groups_differ, groups_stay, one_group, rising_few}
use Rattle.jx_tile_parts.proofs.laws.groups_are_cut.Goals as goal

pub returns-clause-stay : goal.returns-clause-stay
returns-clause-stay c = groups_stay

pub returns-clause-agree : goal.returns-clause-agree
returns-clause-agree c = groups_agree

pub returns-clause-differ : goal.returns-clause-differ
returns-clause-differ c = groups_differ

pub returns-clause-one : goal.returns-clause-one
returns-clause-one c = one_group

pub returns-clause-full : goal.returns-clause-full
returns-clause-full c = empty_group

pub returns-clause-few : goal.returns-clause-few
returns-clause-few c = rising_few
