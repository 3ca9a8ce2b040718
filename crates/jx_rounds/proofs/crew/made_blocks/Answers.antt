use Rattle.std.proofs.lemmas.Option.{slice_get-get_or}
use Rattle.std.proofs.lemmas.Result.{IfOk-weaker}
use Rattle.jx_rounds.proofs.TapedLemmas.{NumberLaws, alone_is_tape}
use Rattle.jx_rounds.proofs.crew.made_blocks.Goals as goal

pub made_alone-requires : goal.made_alone-requires
made_alone-requires g c = λ k d lt. (c.requires.jobs k _ (slice_get-get_or c.args.jobs.now k d lt)).asked

pub returns-clause-tape : goal.returns-clause-tape
returns-clause-tape g c =
    let laws : NumberLaws = record { count = c.numbers_count_up.ensures.count; at = c.numbers_count_up.ensures.at; more = c.numbers_count_up.ensures.more } in
    IfOk-weaker c.made_alone.result _ _ (λ entries alone. alone_is_tape laws c.args.jobs.now c.args.first c.args.crew.now.work entries.items c.requires.jobs c.requires.work alone) c.made_alone.ensures
