use Rattle.jx_mq.proofs.Choices.{by_bit_is}
use Rattle.jx_mq.proofs.choice.by_bit.Goals as goal

pub returns : goal.returns
returns c = by_bit_is c.args.bit c.args.one c.args.other c.requires c.ranges.one.fits c.ranges.other.fits
