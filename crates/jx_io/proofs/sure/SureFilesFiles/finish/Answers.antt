use Rattle.jx_io.specs.Stored.{meaning_of}
use Rattle.jx_io.proofs.ThereLemmas.{there_same, there_finished}
use Rattle.jx_io.proofs.sure.SureFilesFiles.finish.Goals as goal

-- nothing changed
pub returns-in_err-finish-clause-opens : goal.returns-in_err-finish-clause-opens
returns-in_err-finish-clause-opens c = there_same _ _ c.in_err-finish.ensures.err

-- what was there still is
pub returns-clause-opens : goal.returns-clause-opens
returns-clause-opens c = there_finished (meaning_of c.args.self.now.store) (meaning_of c.finish.new.self) c.in_ok-finish.ensures.ok
