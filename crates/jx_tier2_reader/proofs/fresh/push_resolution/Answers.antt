use Rattle.std.proofs.Common.{◌≡◌, ◌++◌, arith}
use Rattle.std.proofs.lemmas.Grind.{common_steps}
use Rattle.jx_tier2_reader.specs.Fresh.{one_precinct}
use Rattle.jx_tier2_reader.proofs.fresh.push_resolution.Goals as goal
use Rattle.jx_base.proofs.Joined.{appends_none, appends_next}

pub loop-precinct-init : goal.loop-precinct-init
loop-precinct-init c =
    appends_none c.args.list.now.items (one_precinct c.args.stream.now c.args.geom.now c.args.comp c.args.res) 0 0 (omega arith)

pub loop-precinct-preserved : goal.loop-precinct-preserved
loop-precinct-preserved c =
    let step : c.push.new.self.items ≡ c.loop-precinct.list.items ++ one_precinct c.args.stream.now c.args.geom.now c.args.comp c.args.res c.loop-precinct.precinct =
    grind (arith, common_steps) in
    appends_next c.args.list.now.items c.loop-precinct.list.items c.push.new.self.items
    (one_precinct c.args.stream.now c.args.geom.now c.args.comp c.args.res) 0 c.loop-precinct.precinct (omega arith) c.loop-precinct.invariant step
