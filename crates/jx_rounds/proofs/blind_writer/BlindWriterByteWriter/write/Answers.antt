use Rattle.jx_rounds.proofs.TakenLemmas.{no_front}
use Rattle.jx_rounds.proofs.blind_writer.BlindWriterByteWriter.write.Goals as goal

pub returns-clause-front : goal.returns-clause-front
returns-clause-front c = no_front _ _
