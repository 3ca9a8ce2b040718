use Rattle.std.proofs.Common.{arith}
use Rattle.jx_progression.specs.Groups.{IsSent}
use Rattle.jx_progression.proofs.BoundsLemmas.{at_all}
use Rattle.jx_progression.proofs.SomeLemmas.{places_kept, sends_more, sends_none, sent_next}
use Rattle.jx_progression.proofs.sending.send_rows.Goals as goal

pub loop-place-init : goal.loop-place-init
loop-place-init c = record {
  some = sends_none c.args.geom.now c.args.layers c.args.entry c.args.sent.now c.args.list.now.items;
  places = c.requires.places;
  sent = λ j lt. absurd (omega arith);
}

pub loop-place-preserved : goal.loop-place-preserved
loop-place-preserved c = record {
  some = sends_more c.args.geom.now c.args.layers c.args.entry c.args.sent.now c.loop-place.sent c.send_row.new.sent c.args.list.now.items
      c.loop-place.list.items c.send_row.new.list.items c.loop-place.invariant.some c.in_ok-send_row.ensures.some;
  places = places_kept c.args.geom.now c.args.layers c.args.entry c.loop-place.sent c.send_row.new.sent c.loop-place.list.items c.send_row.new.list.items
      c.in_ok-send_row.ensures.some c.loop-place.invariant.places;
  sent = sent_next c.args.geom.now c.args.layers c.args.entry c.loop-place.sent c.send_row.new.sent c.loop-place.list.items c.send_row.new.list.items
      c.args.places.now c.loop-place.place-index c.loop-place.invariant.sent c.in_ok-send_row.ensures.some c.in_ok-send_row.ensures.sent;
}

pub returns-clause-sent : goal.returns-clause-sent
returns-clause-sent c =
    at_all (IsSent c.args.geom.now c.args.layers c.args.entry c.loop-place.sent) c.args.places.now c.loop-place.place-index
    (omega (arith, c.loop-place-test.false)) c.loop-place.invariant.sent
