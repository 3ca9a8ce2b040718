use Rattle.jx_tier2_reader.proofs.TileLemmas.{last_ends}
use Rattle.jx_tier2_reader.proofs.heads.end_of_data.Goals as goal

pub returns-in-Some : goal.returns-in-Some
returns-in-Some c = last_ends c.args.bodies.now c.in-Some.body.now c.in-Some.ensures.value
