use Rattle.jx_mq.proofs.Choices.{unless_is}
use Rattle.jx_mq.proofs.choice.unless.Goals as goal

pub returns : goal.returns
returns c = unless_is c.args.bit c.args.number c.requires c.ranges.number.fits
