use Rattle.std.proofs.Common.{◌∙◌, sym}
use Rattle.jx_tagtree.specs.Shape.{levels_of}
use Rattle.jx_tagtree.proofs.ShapeLemmas.{stack_begin, stack_next, stack_end}
use Rattle.jx_tagtree.proofs.shape.table.Goals as goal

pub loop-levels-init : goal.loop-levels-init
loop-levels-init c = rw c.new-levels.ensures.items (stack_begin c.args.wide c.args.high c.requires)

pub loop-levels-preserved : goal.loop-levels-preserved
loop-levels-preserved c = rw (c.in_ok-push.ensures.items, c.next-level.ensures)
    (stack_next (levels_of c.args.wide c.args.high) c.loop-levels.levels.items c.loop-levels.level c.loop-levels.invariant (sym c.is_top.ensures ∙ c.loop-levels-test.true)).1

pub returns : goal.returns
returns c = c.in_ok-push-2.ensures.items
    ∙ stack_end (levels_of c.args.wide c.args.high) c.loop-levels.levels.items c.loop-levels.level c.loop-levels.invariant (sym c.is_top.ensures ∙ c.loop-levels-test.false)
