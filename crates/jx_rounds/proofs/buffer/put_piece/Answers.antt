use Rattle.jx_rounds.proofs.TakenLemmas.{no_front}
use Rattle.jx_rounds.proofs.buffer.put_piece.Goals as goal

pub returns-in-Ok-clause-ok : goal.returns-in-Ok-clause-ok
returns-in-Ok-clause-ok g c = rw c.in-Ok.ensures.ok at c.write_full.ensures.ok

pub returns-in-Ok-clause-front : goal.returns-in-Ok-clause-front
returns-in-Ok-clause-front g c = rw c.in-Ok.ensures.ok at c.write_full.ensures.front

pub returns-in-Err-clause-front : goal.returns-in-Err-clause-front
returns-in-Err-clause-front g c = no_front _ _
