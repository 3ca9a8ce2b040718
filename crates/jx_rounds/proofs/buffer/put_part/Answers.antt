use Rattle.std.proofs.Common.{◌∙◌}
use Rattle.std.proofs.lemmas.Result.{on_ok_weaker}
use Rattle.jx_rounds.proofs.PartLemmas.{part_cut_off, part_put}
use Rattle.jx_rounds.proofs.buffer.put_part.Goals as goal

pub returns-in-Some-clause-ok : goal.returns-in-Some-clause-ok
returns-in-Some-clause-ok g c = rw c.in-Some.ensures at c.put.ensures.ok

pub returns-in-Some-clause-front : goal.returns-in-Some-clause-front
returns-in-Some-clause-front g c = rw c.in-Some.ensures at c.put.ensures.front

pub write_out-requires : goal.write_out-requires
write_out-requires g c = record { may = rw c.put_pieces.ensures.other c.requires.may }

pub returns-clause-ok : goal.returns-clause-ok
returns-clause-ok g c = on_ok_weaker c.write_out.result (λ wrote. part_put _ _ _ _ _ c.in-Ok.ensures.ok wrote) c.write_out.ensures.ok

pub returns-clause-front : goal.returns-clause-front
returns-clause-front g c = part_cut_off _ _ _ _ _ c.in-Ok.ensures.ok c.write_out.ensures.front

pub returns-clause-cause : goal.returns-clause-cause
returns-clause-cause g c = rw (← c.in-Ok.ensures.same) c.write_out.ensures.cause

pub returns-clause-same : goal.returns-clause-same
returns-clause-same g c = on_ok_weaker c.write_out.result (λ same. same ∙ c.in-Ok.ensures.same) c.write_out.ensures.same

pub returns-clause-other : goal.returns-clause-other
returns-clause-other g c = c.write_out.ensures.other ∙ c.put_pieces.ensures.other

pub returns-clause-rose : goal.returns-clause-rose
returns-clause-rose g c = rw (← c.in-Ok.ensures.same) c.write_out.ensures.rose
