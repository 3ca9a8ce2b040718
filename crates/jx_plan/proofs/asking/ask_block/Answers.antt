use Rattle.std.proofs.Common.{◌≤◌, ◌∙◌, arith, length, map, refl}
use Rattle.jx_base.specs.Pieces.{value_of}
use Rattle.jx_plan.proofs.JobLemmas.{begun_on}
use Rattle.jx_plan.proofs.LeftLemmas.{asked_begun, asked_ended, asked_most, asked_on, few_on, item_few, item_first, item_layer, job_ended, left_begun, left_ended, left_on, most_ended, room_on, sent_begun, sent_on}
use Rattle.jx_plan.proofs.asking.ask_block.Goals as goal

pub ask_piece-requires-clause-begun : goal.ask_piece-requires-clause-begun
ask_piece-requires-clause-begun g c = begun_on _ _ c.loop-piece.invariant.rule c.requires.begun

pub ask_piece-requires-clause-room : goal.ask_piece-requires-clause-room
ask_piece-requires-clause-room g c = room_on _ c.loop-piece.sending.passes _ c.loop-piece.invariant.asked c.loop-piece.invariant.few c.requires.room

pub ask_piece-requires-clause-few : goal.ask_piece-requires-clause-few
ask_piece-requires-clause-few g c =
    item_few c.args.block.now c.loop-piece.sending.passes c.loop-piece.piece-index c.as_slice-piece-items.result.now _ c.requires.sound c.loop-piece-test.true c.loop-piece.invariant.left

pub ask_piece-requires-clause-begins : goal.ask_piece-requires-clause-begins
ask_piece-requires-clause-begins g c =
    item_first c.args.block.now c.loop-piece.sending.passes c.loop-piece.piece-index c.as_slice-piece-items.result.now _ c.loop-piece-test.true c.loop-piece.invariant.left

pub ask_piece-requires-clause-layer : goal.ask_piece-requires-clause-layer
ask_piece-requires-clause-layer g c =
    item_layer c.args.block.now c.loop-piece.sending.passes c.loop-piece.piece-index c.as_slice-piece-items.result.now _ c.loop-piece-test.true c.loop-piece.invariant.left

pub loop-piece-init : goal.loop-piece-init
loop-piece-init g c = record {
  rule = refl;
  asked = asked_begun _ c.new-sending.result.passes c.new-sending.ensures.passes;
  few = omega (arith, c.new-sending.ensures.passes);
  left = left_begun c.args.block.now c.new-sending.result.passes (map value_of c.as_slice-piece-items.result.now) c.requires.sound c.new-sending.ensures.passes c.as_slice-piece-items.ensures;
  sent = sent_begun _ c.args.last _ c.args.number c.args.block.now c.new-sending.result.passes c.new-sending.result.last c.new-sending.result.ends c.new-sending.ensures.sent;
}

pub loop-piece-preserved : goal.loop-piece-preserved
loop-piece-preserved g c = record {
  rule = c.ask_piece.ensures.rule ∙ c.loop-piece.invariant.rule;
  asked = asked_on c.args.block.now c.loop-piece.sending.passes c.loop-piece.piece-index c.as_slice-piece-items.result.now _ _ _ _ _ c.loop-piece-test.true c.loop-piece.invariant.left c.loop-piece.invariant.asked
      c.in_ok-ask_piece.ensures.asked c.in_ok-ask_piece.ensures.passes;
  few = few_on c.args.block.now c.loop-piece.sending.passes c.loop-piece.piece-index c.as_slice-piece-items.result.now _ _ c.requires.sound c.loop-piece-test.true c.loop-piece.invariant.left c.in_ok-ask_piece.ensures.passes;
  left = left_on c.args.block.now c.loop-piece.sending.passes c.loop-piece.piece-index c.as_slice-piece-items.result.now _ _ c.loop-piece-test.true c.loop-piece.invariant.left c.in_ok-ask_piece.ensures.passes;
  sent = sent_on _ _ c.args.last _ c.args.number c.args.block.now _ c.loop-piece.sending.passes c.loop-piece.sending.last c.ask_piece.new.sending.passes c.ask_piece.new.sending.last c.loop-piece.sending.ends
      c.ask_piece.new.sending.ends c.loop-piece.invariant.rule c.loop-piece.invariant.asked c.loop-piece.invariant.sent c.in_ok-ask_piece.ensures.sent;
}

pub returns-clause-job : goal.returns-clause-job
returns-clause-job g c =
    let past : length c.as_slice-piece-items.result.now ≤ c.loop-piece.piece-index = omega (arith, c.loop-piece-test.false) in
    let all = left_ended c.args.block.now c.loop-piece.sending.passes c.loop-piece.piece-index c.as_slice-piece-items.result.now past c.loop-piece.invariant.left in
    job_ended c.args.style _ c.args.last _ c.args.number c.args.block.now c.loop-piece.sending.passes c.loop-piece.sending.last c.loop-piece.sending.ends
    (record { number = c.args.number; block = c.args.block; style = c.style_for.result; ends = c.in_ok-ends.ends }) all refl refl c.style_for.ensures c.loop-piece.invariant.sent c.in_ok-ends.ensures.ends

pub returns-clause-asked : goal.returns-clause-asked
returns-clause-asked g c =
    let past : length c.as_slice-piece-items.result.now ≤ c.loop-piece.piece-index = omega (arith, c.loop-piece-test.false) in
    asked_ended c.args.block.now c.loop-piece.sending.passes c.loop-piece.piece-index c.as_slice-piece-items.result.now _ _ past c.loop-piece.invariant.left c.loop-piece.invariant.asked

pub returns-clause-most : goal.returns-clause-most
returns-clause-most g c =
    let past : length c.as_slice-piece-items.result.now ≤ c.loop-piece.piece-index = omega (arith, c.loop-piece-test.false) in
    most_ended c.args.block.now c.loop-piece.sending.passes c.loop-piece.piece-index c.as_slice-piece-items.result.now _ _ past c.loop-piece.invariant.left c.loop-piece.invariant.asked

pub returns-clause-rule : goal.returns-clause-rule
returns-clause-rule g c = c.loop-piece.invariant.rule

pub returns-in_err-ask_piece-clause-most : goal.returns-in_err-ask_piece-clause-most
returns-in_err-ask_piece-clause-most g c =
    asked_most c.args.block.now c.loop-piece.sending.passes c.loop-piece.piece-index c.as_slice-piece-items.result.now _ _ _ _ c.loop-piece-test.true c.loop-piece.invariant.left c.loop-piece.invariant.asked c.ask_piece.ensures.most

pub returns-in_err-ask_piece-clause-rule : goal.returns-in_err-ask_piece-clause-rule
returns-in_err-ask_piece-clause-rule g c = c.ask_piece.ensures.rule ∙ c.loop-piece.invariant.rule

pub returns-in_err-ends-clause-most : goal.returns-in_err-ends-clause-most
returns-in_err-ends-clause-most g c =
    let past : length c.as_slice-piece-items.result.now ≤ c.loop-piece.piece-index = omega (arith, c.loop-piece-test.false) in
    most_ended c.args.block.now c.loop-piece.sending.passes c.loop-piece.piece-index c.as_slice-piece-items.result.now _ _ past c.loop-piece.invariant.left c.loop-piece.invariant.asked

pub returns-in_err-ends-clause-rule : goal.returns-in_err-ends-clause-rule
returns-in_err-ends-clause-rule g c = c.loop-piece.invariant.rule
