use Rattle.jx_rounds.proofs.PartLemmas.{nothing_left}
use Rattle.jx_rounds.proofs.TakenLemmas.{has_taken_none, no_front}
use Rattle.jx_rounds.proofs.buffer.write_full.Goals as goal

pub returns-then-len-ge-ENOUGH-clause-ok : goal.returns-then-len-ge-ENOUGH-clause-ok
returns-then-len-ge-ENOUGH-clause-ok g c = nothing_left c.write_out.result _ _ _ _ c.write_out.ensures.ok c.write_out.ensures.empty

pub returns-clause-ok : goal.returns-clause-ok
returns-clause-ok g c = has_taken_none _ _

pub returns-clause-front : goal.returns-clause-front
returns-clause-front g c = no_front _ _
