use Rattle.jx_rounds.proofs.TakenLemmas.{no_front}
use Rattle.jx_rounds.proofs.write.put_round.Goals as goal

pub returns-then-is_blind-clause-front : goal.returns-then-is_blind-clause-front
returns-then-is_blind-clause-front g c = no_front _ _
