use Rattle.jx_io.specs.Stored.{meaning_of}
use Rattle.jx_io.proofs.ThereLemmas.{there_put}
use Rattle.jx_io.proofs.sure.SureFiles.put.Goals as goal

-- what was put there is there
pub returns-clause-there : goal.returns-clause-there
returns-clause-there c = there_put (meaning_of c.args.self.now.store) (meaning_of c.put.new.self) c.args.name.now c.args.bytes.now c.in_ok-put.ensures.ok
