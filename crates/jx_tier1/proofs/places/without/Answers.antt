use Rattle.std.proofs.Common.{◌-◌}
use Rattle.jx_tier1.proofs.PlaceMasks.{without_bits, word_first}
use Rattle.jx_tier1.proofs.places.without.Goals as goal

pub returns-clause-bits : goal.returns-clause-bits
returns-clause-bits c = λ i. without_bits c.args.places c.args.others i c.ranges.places.fits c.ranges.others.fits

pub returns-clause-word : goal.returns-clause-word
returns-clause-word c = λ w. word_first c.args.places (18446744073709551615 - c.args.others) w
