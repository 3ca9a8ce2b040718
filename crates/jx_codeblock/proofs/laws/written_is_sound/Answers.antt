use Rattle.jx_codeblock.proofs.MadeBlocks.{made_cut, made_ends, made_shares, made_sound}
use Rattle.jx_codeblock.proofs.laws.written_is_sound.Goals as goal

pub returns-clause-sound : goal.returns-clause-sound
returns-clause-sound c b style ends r asked e = made_sound b style ends r asked e

pub returns-clause-cuts : goal.returns-clause-cuts
returns-clause-cuts c b style ends r asked e = made_cut b style ends r asked e

pub returns-clause-layers : goal.returns-clause-layers
returns-clause-layers c b style ends r asked e = made_ends b style ends r asked e

pub returns-clause-passes : goal.returns-clause-passes
returns-clause-passes c b style ends r layer asked e own = made_shares b style ends r layer asked e own
