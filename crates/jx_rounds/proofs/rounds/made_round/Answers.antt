use Rattle.std.proofs.Common.{arith}
use Rattle.jx_rounds.proofs.ExtentLemmas.{extent_place}
use Rattle.jx_rounds.proofs.rounds.made_round.Goals as goal

pub returns-in-Ok-clause-later : goal.returns-in-Ok-clause-later
returns-in-Ok-clause-later g c = omega (arith, c.in_ok-extent.ensures.tile, c.in_ok-extent.ensures.extent.some)

pub returns-in-Ok-clause-place : goal.returns-in-Ok-clause-place
returns-in-Ok-clause-place g c = rw (c.in_ok-extent.ensures.tile, c.in_ok-extent.ensures.block)
    (extent_place c.args.making.now c.args.tile c.args.block c.in_ok-extent.extent.blocks c.in_ok-extent.extent.counts.items c.in_ok-extent.ensures.extent c.requires.block)

pub returns-in-Ok-clause-ends : goal.returns-in-Ok-clause-ends
returns-in-Ok-clause-ends g c = rw c.in_ok-extent.ensures.tile c.in_ok-extent.ensures.extent.ends
