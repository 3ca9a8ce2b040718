use Rattle.std.proofs.Common.{◌+◌, ◌-◌, arith, sym, drop, get_or, take}
use Rattle.jx_progression.specs.Steps.{group_names, group_size, name_of}
use Rattle.jx_progression.proofs.GroupLemmas.{group_long, some_groups}
use Rattle.jx_progression.proofs.SpreadLemmas.{spread_fits, spread_step}
use Rattle.jx_progression.proofs.spread.write_groups.Goals as goal

pub write_group-to-requires-clause-room : goal.write_group-to-requires-clause-room
write_group-to-requires-clause-room c =
    omega (
      arith,
      spread_fits (group_names c.args.geom.now c.args.order c.args.end) c.args.list.now c.loop-done.list c.args.from c.args.heads c.loop-done.done c.loop-done.to
          (name_of 0 0 0 0) (omega arith) c.requires.heads c.loop-done.invariant,
      group_long c.args.geom.now c.args.order c.args.end (get_or c.loop-done.list (c.args.from + (c.args.heads - 1 - c.loop-done.done)) (name_of 0 0 0 0)),
    )

pub loop-done-preserved : goal.loop-done-preserved
loop-done-preserved c =
    spread_step (group_names c.args.geom.now c.args.order c.args.end) c.args.list.now c.loop-done.list c.write_group-to.new.list c.args.from c.args.heads
    c.loop-done.done c.loop-done.to
    (group_size c.args.geom.now c.args.order c.args.end (get_or c.loop-done.list (c.args.from + (c.args.heads - 1 - c.loop-done.done)) (name_of 0 0 0 0)))
    c.write_group-to.result (name_of 0 0 0 0)
    (some_groups c.args.geom.now c.args.order c.args.end (take c.args.heads (drop c.args.from c.args.list.now)) c.requires.some) (omega arith) c.requires.heads
    c.loop-done.invariant
    (sym (group_long c.args.geom.now c.args.order c.args.end (get_or c.loop-done.list (c.args.from + (c.args.heads - 1 - c.loop-done.done)) (name_of 0 0 0 0))))
    c.write_group-to.ensures.at c.write_group-to.ensures.list
