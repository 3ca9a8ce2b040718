use Rattle.std.proofs.Common.{refl}
use Rattle.jx_transcode.proofs.device.read_more.Goals as goal

pub returns-in_err-more_room-clause-same : goal.returns-in_err-more_room-clause-same
returns-in_err-more_room-clause-same g c = refl

pub returns-in_err-more_room-clause-other : goal.returns-in_err-more_room-clause-other
returns-in_err-more_room-clause-other g c = refl

pub returns-clause-end : goal.returns-clause-end
returns-clause-end g c = c.read_on.ensures.end

pub returns-clause-same : goal.returns-clause-same
returns-clause-same g c = c.read_on.ensures.same

pub returns-clause-cause : goal.returns-clause-cause
returns-clause-cause g c = c.read_on.ensures.cause

pub returns-clause-creates : goal.returns-clause-creates
returns-clause-creates g c = c.read_on.ensures.creates

pub returns-clause-opens : goal.returns-clause-opens
returns-clause-opens g c = c.read_on.ensures.opens
