use Rattle.jx_packet_header.proofs.AgreeLemmas.{leaves_agree, written_state}
use Rattle.jx_packet_header.proofs.laws.leaves_agree.Goals as goal

pub returns-clause-told : goal.returns-clause-told
returns-clause-told c = λ layers style layer bands leaves r f t lt. (leaves_agree layers style layer bands leaves r f t lt).told

pub returns-clause-state : goal.returns-clause-state
returns-clause-state c = written_state
