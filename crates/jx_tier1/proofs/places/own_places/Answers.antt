use Rattle.std.proofs.Common.{◌/◌}
use Rattle.jx_tier1.proofs.PlaceMasks.{own_bits, word_second}
use Rattle.jx_tier1.proofs.places.own_places.Goals as goal

pub returns-clause-bits : goal.returns-clause-bits
returns-clause-bits c = λ i. own_bits c.args.window c.args.places i

pub returns-clause-word : goal.returns-clause-word
returns-clause-word c = λ w. word_second (c.args.window / 128) c.args.places w
