use Rattle.jx_io.specs.Stored.{meaning_of}
use Rattle.jx_io.proofs.ThereLemmas.{there_read}
use Rattle.jx_io.proofs.sure.SureFilesFiles.read.Goals as goal

-- what was there still is
pub returns-clause-opens : goal.returns-clause-opens
returns-clause-opens c = there_read (meaning_of c.args.self.now.store) (meaning_of c.read.new.self) c.read.result c.read.ensures.read
