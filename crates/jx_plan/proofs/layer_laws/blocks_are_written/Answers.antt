use Rattle.jx_plan.proofs.BlocksByRule.{asked_written, written_at, written_count}
use Rattle.jx_plan.proofs.layer_laws.blocks_are_written.Goals as goal

pub returns-clause-count : goal.returns-clause-count
returns-clause-count c = λ style rule layers blocks. written_count style rule layers blocks

pub returns-clause-each : goal.returns-clause-each
returns-clause-each c = λ style rule layers blocks n. written_at style rule layers blocks n

pub returns-clause-jobs : goal.returns-clause-jobs
returns-clause-jobs c = λ style rule layers blocks jobs some are. asked_written style rule layers blocks jobs some are
