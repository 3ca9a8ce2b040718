use Rattle.jx_codestream.proofs.PackedLemmas.{first_passes, none_passes}
use Rattle.jx_codestream.proofs.packed.place_among.Goals as goal

pub returns-then-index-other-clause-place : goal.returns-then-index-other-clause-place
returns-then-index-other-clause-place c =
    first_passes c.args.sorted.now c.args.index c.loop-place.place (record { place = 0; index = 0; length = 0 }) c.loop-place-test.true c.loop-place.invariant c.if-index-other.true

pub returns-clause-place : goal.returns-clause-place
returns-clause-place c = none_passes c.args.sorted.now c.args.index c.loop-place.place c.loop-place-test.false c.loop-place.invariant
