use Rattle.jx_io.specs.Stored.{meaning_of}
use Rattle.jx_io.proofs.ThereLemmas.{there_opened}
use Rattle.jx_io.proofs.sure.SureFilesFiles.open.Goals as goal

-- what was there still is
pub returns-clause-opens : goal.returns-clause-opens
returns-clause-opens c = there_opened (meaning_of c.args.self.now.store) (meaning_of c.open.new.self) c.args.name.now c.open.ensures
