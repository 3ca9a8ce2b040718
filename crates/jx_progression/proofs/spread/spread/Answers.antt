use Rattle.std.proofs.Common.{◌-◌, ◌+◌, ◌∙◌, List, arith, ap, sym, drop, length}
use Rattle.std.specs.List.{flat_map}
use Rattle.jx_progression.specs.declared.names.PacketName.{PacketName}
use Rattle.jx_progression.specs.Steps.{group_names}
use Rattle.jx_progression.proofs.SpreadLemmas.{heads_stay, whole_slice}
use Rattle.jx_progression.proofs.spread.spread.Goals as goal

pub write_groups-requires-clause-size : goal.write_groups-requires-clause-size
write_groups-requires-clause-size c =
    let stay = heads_stay c.args.list.now.items c.make_room.new.list.items c.deref_mut.result.now c.args.from (c.len.result - c.args.from)
    c.requires.from (omega arith) c.deref_mut.ensures.value c.in_ok-make_room.ensures.front in
    ap (λ (ys : List PacketName). length ys) c.deref_mut.ensures.value ∙ c.in_ok-make_room.ensures.size
    ∙ ap (λ (ys : List PacketName). c.args.from + length (flat_map (group_names c.args.geom.now c.args.order c.args.end) ys)) (sym stay)

pub returns-clause-names : goal.returns-clause-names
returns-clause-names c =
    let stay = heads_stay c.args.list.now.items c.make_room.new.list.items c.deref_mut.result.now c.args.from (c.len.result - c.args.from)
    c.requires.from (omega arith) c.deref_mut.ensures.value c.in_ok-make_room.ensures.front in
    let whole = whole_slice c.make_room.new.list.items c.write_groups.new.list c.make_room.new.list.len (omega arith) (omega arith) in
    ap (λ (ys : List PacketName). drop c.args.from ys) whole ∙ c.write_groups.ensures.names
    ∙ ap (λ (ys : List PacketName). flat_map (group_names c.args.geom.now c.args.order c.args.end) ys) stay
