use Rattle.std.proofs.Common.{◌≡◌, ◌+◌, ◌∙◌, ap, arith, length, length-append, [], ◌∷◌, refl}
use Rattle.jx_plan.proofs.JobLemmas.{asked_all, asked_most, asked_on, begun_on, jobs_begun, jobs_done, jobs_on, most_all, room_left, sound_at}
use Rattle.jx_plan.proofs.asking.ask_jobs.Goals as goal

pub ask_block-requires-clause-begun : goal.ask_block-requires-clause-begun
ask_block-requires-clause-begun g c = begun_on _ _ c.loop-number.invariant.rule c.requires.begun

pub ask_block-requires-clause-room : goal.ask_block-requires-clause-room
ask_block-requires-clause-room g c =
    room_left c.args.blocks.now c.loop-number.number _ c.index-blocks-number.result c.requires.sound c.requires.few c.loop-number-test.true c.loop-number.invariant.asked

pub ask_block-requires-clause-sound : goal.ask_block-requires-clause-sound
ask_block-requires-clause-sound g c = sound_at c.args.blocks.now c.loop-number.number c.index-blocks-number.result c.requires.sound c.loop-number-test.true c.index-blocks-number.is

pub loop-number-init : goal.loop-number-init
loop-number-init g c = record {
  rule = refl;
  asked = c.requires.start;
  count = ap length c.new-jobs.ensures.items;
  jobs = jobs_begun c.args.style ((goal.LayerPlanner-dyn g (c.args.planner.now.vtable, c.args.planner.now.value)).rule c.args.planner.now.value) c.args.layers c.args.blocks.now c.new-jobs.result.items c.new-jobs.ensures.items;
}

pub loop-number-preserved : goal.loop-number-preserved
loop-number-preserved g c =
    record {
      rule = c.ask_block.ensures.rule ∙ c.loop-number.invariant.rule;
      asked = asked_on c.args.blocks.now c.loop-number.number c.index-blocks-number.result _ _ c.loop-number-test.true c.index-blocks-number.is c.loop-number.invariant.asked c.in_ok-job.ensures.asked;
      count = ap length c.in_ok-push.ensures.items ∙ length-append c.loop-number.jobs.items (c.in_ok-job.job ∷ []) ∙ ap (λ n. n + 1) c.loop-number.invariant.count;
      jobs = jobs_on c.args.style _ _ c.args.layers _ c.args.blocks.now c.loop-number.number c.index-blocks-number.result c.loop-number.jobs.items c.in_ok-job.job c.push.new.self.items c.loop-number.invariant.rule
          c.loop-number.invariant.asked c.loop-number-test.true c.index-blocks-number.is c.in_ok-push.ensures.items c.loop-number.invariant.jobs c.in_ok-job.ensures.job;
    }

pub returns-clause-jobs : goal.returns-clause-jobs
returns-clause-jobs g c =
    let all : c.loop-number.number ≡ length c.args.blocks.now = omega (arith, c.loop-number-test.false, c.loop-number.auto.number-end) in
    jobs_done c.args.style ((goal.LayerPlanner-dyn g (c.args.planner.now.vtable, c.args.planner.now.value)).rule c.args.planner.now.value) c.args.layers c.args.blocks.now c.loop-number.number c.loop-number.jobs.items all c.loop-number.invariant.jobs

pub returns-clause-count : goal.returns-clause-count
returns-clause-count g c =
    let all : c.loop-number.number ≡ length c.args.blocks.now = omega (arith, c.loop-number-test.false, c.loop-number.auto.number-end) in
    c.loop-number.invariant.count ∙ all

pub returns-clause-asked : goal.returns-clause-asked
returns-clause-asked g c =
    let all : c.loop-number.number ≡ length c.args.blocks.now = omega (arith, c.loop-number-test.false, c.loop-number.auto.number-end) in
    asked_all c.args.blocks.now c.loop-number.number ((goal.LayerPlanner-dyn g (c.loop-number.planner.vtable, c.loop-number.planner.value)).asked c.loop-number.planner.value) all c.loop-number.invariant.asked

pub returns-clause-most : goal.returns-clause-most
returns-clause-most g c =
    let all : c.loop-number.number ≡ length c.args.blocks.now = omega (arith, c.loop-number-test.false, c.loop-number.auto.number-end) in
    most_all c.args.blocks.now c.loop-number.number ((goal.LayerPlanner-dyn g (c.loop-number.planner.vtable, c.loop-number.planner.value)).asked c.loop-number.planner.value) all c.loop-number.invariant.asked

pub returns-clause-rule : goal.returns-clause-rule
returns-clause-rule g c = c.loop-number.invariant.rule

pub returns-in_err-job-clause-most : goal.returns-in_err-job-clause-most
returns-in_err-job-clause-most g c =
    asked_most c.args.blocks.now c.loop-number.number c.index-blocks-number.result _ _ c.loop-number-test.true c.index-blocks-number.is c.loop-number.invariant.asked c.ask_block.ensures.most

pub returns-in_err-job-clause-rule : goal.returns-in_err-job-clause-rule
returns-in_err-job-clause-rule g c = c.ask_block.ensures.rule ∙ c.loop-number.invariant.rule

pub returns-in_err-push-clause-most : goal.returns-in_err-push-clause-most
returns-in_err-push-clause-most g c =
    asked_most c.args.blocks.now c.loop-number.number c.index-blocks-number.result _ _ c.loop-number-test.true c.index-blocks-number.is c.loop-number.invariant.asked c.ask_block.ensures.most

pub returns-in_err-push-clause-rule : goal.returns-in_err-push-clause-rule
returns-in_err-push-clause-rule g c = c.ask_block.ensures.rule ∙ c.loop-number.invariant.rule
