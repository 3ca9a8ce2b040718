use Rattle.std.proofs.Common.{◌≡◌, ◌++◌, arith}
use Rattle.std.proofs.lemmas.Grind.{common_steps}
use Rattle.jx_progression.specs.Steps.{one_precinct_head}
use Rattle.jx_base.proofs.Joined.{appends_none, appends_next}
use Rattle.jx_progression.proofs.entry.push_precincts.Goals as goal

pub loop-precinct-init : goal.loop-precinct-init
loop-precinct-init c = appends_none c.args.list.now.items (one_precinct_head c.args.row c.args.layer) 0 0 (omega arith)

pub loop-precinct-preserved : goal.loop-precinct-preserved
loop-precinct-preserved c =
    let step : c.push.new.self.items ≡ c.loop-precinct.list.items ++ one_precinct_head c.args.row c.args.layer c.loop-precinct.precinct = grind (arith, common_steps) in
    appends_next c.args.list.now.items c.loop-precinct.list.items c.push.new.self.items (one_precinct_head c.args.row c.args.layer) 0 c.loop-precinct.precinct (omega arith) c.loop-precinct.invariant step
