use Rattle.std.proofs.Common.{◌≡◌, map, arith}
use Rattle.jx_base.specs.Places.{size_of}
use Rattle.jx_geom.specs.Geometry.{precincts_in}
use Rattle.jx_tier2_writer.proofs.SendingsLemmas.{push_all, push_next, push_none}
use Rattle.jx_tier2_writer.proofs.precincts.push_resolution.Goals as goal

pub loop-precinct-init : goal.loop-precinct-init
loop-precinct-init g c names are =
    push_none c.args.stream.now c.args.geom.now (map g.B.Coded.block c.args.values.now) (map g.B.Coded.bytes c.args.values.now) c.args.comp c.args.res names c.args.list.now.items are

pub loop-precinct-preserved : goal.loop-precinct-preserved
loop-precinct-preserved g c names are =
    push_next c.args.stream.now c.args.geom.now (map g.B.Coded.block c.args.values.now) (map g.B.Coded.bytes c.args.values.now) c.args.comp c.args.res c.loop-precinct.precinct names
    c.loop-precinct.list.items c.push.new.self.items c.in_ok-sending.sending (c.loop-precinct.invariant names are) c.in_ok-sending.ensures c.in_ok-push.ensures.items

pub returns : goal.returns
returns g c names are =
    let all : c.loop-precinct.precinct ≡ size_of (precincts_in c.args.geom.now c.args.comp c.args.res) = grind arith in
    push_all c.args.stream.now c.args.geom.now (map g.B.Coded.block c.args.values.now) (map g.B.Coded.bytes c.args.values.now) c.args.comp c.args.res c.loop-precinct.precinct names
    c.loop-precinct.list.items all (c.loop-precinct.invariant names are)
