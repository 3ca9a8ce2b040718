use Rattle.jx_io.specs.Stored.{meaning_of}
use Rattle.jx_io.proofs.ThereLemmas.{there_same, there_created}
use Rattle.jx_io.proofs.sure.SureFilesFiles.create.Goals as goal

-- nothing changed
pub returns-in_err-create-clause-opens : goal.returns-in_err-create-clause-opens
returns-in_err-create-clause-opens c = there_same _ _ c.in_err-create.ensures.err

-- what was there still is
pub returns-clause-opens : goal.returns-clause-opens
returns-clause-opens c = there_created (meaning_of c.args.self.now.store) (meaning_of c.create.new.self) c.args.name.now c.in_ok-create.ensures.ok
