use Rattle.jx_tier1_specs.proofs.RunLemmas.{run_quiet}
use Rattle.jx_tier1_plain.proofs.runs.decide_place.Goals as goal

pub decide_named-requires-clause-quiet : goal.decide_named-requires-clause-quiet
decide_named-requires-clause-quiet g c =
    run_quiet c.args.plane c.args.grid.now c.args.x c.args.y c.number.result c.requires.quiet c.number.ensures.few
