use Rattle.jx_io.specs.Stored.{meaning_of}
use Rattle.jx_io.proofs.ThereLemmas.{there_same, there_written}
use Rattle.jx_io.proofs.sure.SureFilesFiles.write.Goals as goal

-- nothing changed
pub returns-in_err-write-clause-opens : goal.returns-in_err-write-clause-opens
returns-in_err-write-clause-opens c = there_same _ _ c.in_err-write.ensures.err

-- what was there still is
pub returns-clause-opens : goal.returns-clause-opens
returns-clause-opens c = there_written (meaning_of c.args.self.now.store) (meaning_of c.write.new.self) c.args.from.now c.in_ok-write.ensures.ok
