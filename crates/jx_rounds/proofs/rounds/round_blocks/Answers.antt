use Rattle.std.proofs.Common.{refl}
use Rattle.std.proofs.lemmas.Result.{IfOk-weaker}
use Rattle.jx_rounds.proofs.TapedLemmas.{NumberLaws, answers_are, answers_of, tapes_on}
use Rattle.jx_rounds.proofs.rounds.round_blocks.Goals as goal

pub returns-clause-tape : goal.returns-clause-tape
returns-clause-tape g c = IfOk-weaker c.made_blocks.result _ _ (λ entries tape.
    let laws : NumberLaws = record { count = c.numbers_count_up.ensures.count; at = c.numbers_count_up.ensures.at; more = c.numbers_count_up.ensures.more } in
    tapes_on laws c.args.making.now c.args.crew.now.work c.args.first _ entries.items _ c.jobs_from-jobs.ensures.plan
    (answers_are laws c.args.making.now c.args.crew.now.work c.args.first c.args.count c.jobs_from-jobs.result.now entries.items c.jobs_from-jobs.ensures.plan c.jobs_from-jobs.ensures.value
    c.jobs_from-jobs.ensures.count c.requires.within tape) refl refl) c.made_blocks.ensures.tape

pub returns-clause-of : goal.returns-clause-of
returns-clause-of g c = IfOk-weaker c.made_blocks.result _ _ (λ entries tape.
    let laws : NumberLaws = record { count = c.numbers_count_up.ensures.count; at = c.numbers_count_up.ensures.at; more = c.numbers_count_up.ensures.more } in
    answers_of laws c.args.making.now c.args.crew.now.work c.args.first c.args.count c.jobs_from-jobs.result.now entries.items c.jobs_from-jobs.ensures.plan c.jobs_from-jobs.ensures.value
    c.jobs_from-jobs.ensures.count c.requires.within tape) c.made_blocks.ensures.tape
