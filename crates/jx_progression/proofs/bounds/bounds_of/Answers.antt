use Rattle.std.proofs.Common.{arith, slice_index}
use Rattle.jx_progression.specs.Groups.{IsWithin}
use Rattle.jx_progression.specs.Steps.{row_at}
use Rattle.jx_progression.proofs.BoundsLemmas.{at_all, next_at, within_at}
use Rattle.jx_progression.proofs.bounds.bounds_of.Goals as goal

pub loop-place-preserved : goal.loop-place-preserved
loop-place-preserved c =
    next_at (λ i. IsWithin c.include-bounds.result (row_at c.args.rows.now i) (slice_index c.args.sent.now i)) c.args.places.now c.loop-place.place-index
    (λ j lt. c.include-bounds.ensures.others (row_at c.args.rows.now (slice_index c.args.places.now j))
    (slice_index c.args.sent.now (slice_index c.args.places.now j)) (c.loop-place.invariant j lt))
    (within_at c.include-bounds.result c.row_at.result _ c.sent_at.result _ c.row_at.ensures c.sent_at.ensures c.include-bounds.ensures.own)

pub returns : goal.returns
returns c =
    at_all (λ i. IsWithin c.loop-place.bounds (row_at c.args.rows.now i) (slice_index c.args.sent.now i)) c.args.places.now c.loop-place.place-index
    (omega (arith, c.loop-place-test.false)) c.loop-place.invariant
