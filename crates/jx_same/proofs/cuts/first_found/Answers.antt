use Rattle.std.proofs.Common.{sym}
use Rattle.jx_same.proofs.FindLemmas.{joined_begins, joined_goes, joined_stops, nothing}
use Rattle.jx_same.proofs.RunLemmas.{first_at}
use Rattle.jx_same.proofs.cuts.first_found.Goals as goal

pub loop-answer-init : goal.loop-answer-init
loop-answer-init c = λ p f are. joined_begins p f

pub returns-in-Some : goal.returns-in-Some
returns-in-Some c = λ p f are.
    (let here = first_at p f c.args.answers.now c.loop-answer.answer-index _ c.in_ok-spot.field-0 _ are c.loop-answer-test.true (sym c.in_ok-spot.ensures) c.in-Some.is in
    sym (joined_stops p f c.loop-answer.answer-index _ c.in-Some.spot (c.loop-answer.invariant p f are) here c.loop-answer-test.true))

pub loop-answer-preserved : goal.loop-answer-preserved
loop-answer-preserved c = λ p f are.
    (let here = first_at p f c.args.answers.now c.loop-answer.answer-index _ c.in_ok-spot.field-0 _ are c.loop-answer-test.true (sym c.in_ok-spot.ensures) (nothing c.in_ok-spot.field-0 (λ x is. c.in_default.not-Some x is)) in
    joined_goes p f c.loop-answer.answer-index (c.loop-answer.invariant p f are) here)
