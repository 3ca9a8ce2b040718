use Rattle.jx_io_memory.proofs.PlanLemmas.{first_next}
use Rattle.jx_io_memory.proofs.memory.MemFiles.new.Goals as goal

-- no call of any kind was made
pub returns-clause-first : goal.returns-clause-first
returns-clause-first c = first_next c.new-2.result c.new-2.ensures.made
