use Rattle.std.proofs.Common.{refl}
use Rattle.std.specs.Prelude.{slice_index_or, slice_set}
use Rattle.jx_progression.specs.Groups.{no_bounds}
use Rattle.jx_progression.proofs.BoundsLemmas.{bounds_rise, bounds_set, group_skipped}
use Rattle.jx_progression.proofs.SomeLemmas.{sends_none, some_rises}
use Rattle.jx_progression.proofs.sending.send_group.Goals as goal

pub returns-then-sends_nothing-clause-some : goal.returns-then-sends_nothing-clause-some
returns-then-sends_nothing-clause-some c = sends_none c.args.geom.now c.args.layers c.args.entry c.args.sent.now c.args.list.now.items

pub returns-then-sends_nothing-clause-sent : goal.returns-then-sends_nothing-clause-sent
returns-then-sends_nothing-clause-sent c =
    group_skipped c.args.geom.now c.args.layers c.args.entry c.args.places.now c.args.groups.now c.args.sent.now c.args.group
    (slice_index_or c.args.groups.now c.args.group no_bounds) c.requires.group refl c.requires.bounds (c.sends_nothing.ensures c.if-sends_nothing.true)

pub returns-clause-bounds : goal.returns-clause-bounds
returns-clause-bounds c =
    bounds_set c.args.geom.now c.args.places.now c.args.groups.now (slice_set c.args.groups.now c.args.group c.bounds_of.result) c.send_rows.new.sent
    c.args.group c.bounds_of.result c.resolutions.result.now c.group_of-own.result.now refl c.resolutions.ensures c.group_of-own.ensures c.bounds_of.ensures
    (bounds_rise c.args.geom.now c.args.places.now c.args.groups.now c.args.sent.now c.send_rows.new.sent
    (some_rises c.args.geom.now c.args.layers c.args.entry c.args.sent.now c.send_rows.new.sent c.in_ok-send_rows.ensures.some.0
    c.in_ok-send_rows.ensures.some.2) c.requires.bounds)
