use Rattle.std.proofs.Common.{arith, length}
use Rattle.jx_progression.proofs.SomeLemmas.{groups_next, places_kept, sends_all, sends_more, sends_none}
use Rattle.jx_progression.proofs.sending.send_groups.Goals as goal

pub loop-group-init : goal.loop-group-init
loop-group-init c = record {
  some = sends_none c.args.geom.now c.args.layers c.args.entry c.args.sent.now c.args.list.now.items;
  places = c.requires.places;
  bounds = c.requires.bounds;
  sent = λ k lt. absurd (omega arith);
}

pub send_group-requires-clause-begin : goal.send_group-requires-clause-begin
send_group-requires-clause-begin c = c.requires.groups.begin c.loop-group.group (omega arith)

pub loop-group-preserved : goal.loop-group-preserved
loop-group-preserved c = record {
  some = sends_more c.args.geom.now c.args.layers c.args.entry c.args.sent.now c.loop-group.sent c.send_group.new.sent c.args.list.now.items
      c.loop-group.list.items c.send_group.new.list.items c.loop-group.invariant.some c.in_ok-send_group.ensures.some;
  places = places_kept c.args.geom.now c.args.layers c.args.entry c.loop-group.sent c.send_group.new.sent c.loop-group.list.items
      c.send_group.new.list.items c.in_ok-send_group.ensures.some c.loop-group.invariant.places;
  bounds = c.in_ok-send_group.ensures.bounds;
  sent = groups_next c.args.geom.now c.args.layers c.args.entry c.loop-group.sent c.send_group.new.sent c.loop-group.list.items
      c.send_group.new.list.items c.args.places.now c.loop-group.group c.loop-group.invariant.sent c.in_ok-send_group.ensures.some
      c.in_ok-send_group.ensures.sent;
}

pub returns-clause-all : goal.returns-clause-all
returns-clause-all c =
    sends_all c.args.geom.now c.args.layers c.args.entry c.args.sent.now c.loop-group.sent c.args.list.now.items c.loop-group.list.items c.args.places.now
    (length c.args.groups.now) c.loop-group.group c.requires.groups (omega arith) c.loop-group.invariant.some c.loop-group.invariant.sent
