use Rattle.std.proofs.Common.{◌≡◌, ◌+◌, ◌∙◌, arith, ap, sym, drop, get_or, length}
use Rattle.std.proofs.lemmas.List.{get_or-drop, length-drop}
use Rattle.jx_progression.specs.declared.names.PacketName.{PacketName}
use Rattle.jx_progression.specs.Steps.{group_names}
use Rattle.jx_progression.proofs.GroupLemmas.{group_long, some_groups}
use Rattle.jx_progression.proofs.SpreadLemmas.{front_all, room_next}
use Rattle.jx_progression.proofs.spread.make_room.Goals as goal

pub loop-done-preserved : goal.loop-done-preserved
loop-done-preserved c =
    let item : get_or (drop c.args.from c.args.list.now.items) c.loop-done.done c.index-head.result.now ≡ c.index-head.result.now =
    get_or-drop c.args.from c.args.list.now.items c.loop-done.done c.index-head.result.now
    ∙ sym (front_all c.args.list.now.items c.loop-done.list.items (c.args.from + c.loop-done.done) c.index-head.result.now (omega arith) c.loop-done.invariant.front)
    ∙ sym c.index-head.ensures in
    let size = c.group_size-size.ensures ∙ sym (group_long c.args.geom.now c.args.order c.args.end c.index-head.result.now)
    ∙ ap (λ (y : PacketName). length (group_names c.args.geom.now c.args.order c.args.end y)) (sym item) in
    room_next (group_names c.args.geom.now c.args.order c.args.end) (drop c.args.from c.args.list.now.items) c.args.list.now.items c.loop-done.list.items
    c.push_copies.new.list.items c.loop-done.done c.group_size-size.result c.index-head.result.now
    (some_groups c.args.geom.now c.args.order c.args.end (drop c.args.from c.args.list.now.items) c.requires.some)
    (omega (arith, length-drop c.args.from c.args.list.now.items, c.requires.heads)) c.loop-done.invariant size
    (c.in_ok-push_copies.ensures.front) (omega (arith, c.in_ok-push_copies.ensures.size))
