use Rattle.std.proofs.Common.{[]}
use Rattle.jx_plan.proofs.StandLemmas.{segments_more, asides_later}
use Rattle.jx_plan.proofs.laws.asides_may_follow.Goals as goal

pub returns-clause-first : goal.returns-clause-first
returns-clause-first c = λ comps own more are asides. segments_more comps [] own more asides are

pub returns-clause-later : goal.returns-clause-later
returns-clause-later c = λ comps more asides. asides_later comps [] more asides
