use Rattle.jx_options.proofs.VolumeLemmas.{volumes_read, volumes_spelled}
use Rattle.jx_options.proofs.laws.volumes_are_spelled.Goals as goal

pub returns-clause-spelled : goal.returns-clause-spelled
returns-clause-spelled c = λ entries are. volumes_spelled entries are

pub returns-clause-read : goal.returns-clause-read
returns-clause-read c = λ text entries is. volumes_read text entries is
