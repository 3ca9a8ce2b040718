use Rattle.jx_tier2_reader.proofs.GatherLemmas.{cause_of_cover, cause_of_tile}
use Rattle.jx_tier2_reader.proofs.gathering.first_refused.Goals as goal

pub returns-in-Ok : goal.returns-in-Ok
returns-in-Ok c =
    cause_of_tile c.args.bytes.now c.args.stream.now c.args.tile c.args.fault c.requires.totals c.requires.tile c.in-Ok.ensures.whole c.requires.read c.requires.refused

pub returns-in-Err : goal.returns-in-Err
returns-in-Err c = cause_of_cover c.args.bytes.now c.args.stream.now c.in-Err.uncovered c.requires.totals c.in-Err.ensures.uncovered
