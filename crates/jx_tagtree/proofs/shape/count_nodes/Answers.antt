use Rattle.std.proofs.Common.{◌∙◌, sym}
use Rattle.jx_tagtree.specs.Shape.{root}
use Rattle.jx_tagtree.proofs.ShapeLemmas.{rise_begin, rise_next}
use Rattle.jx_tagtree.proofs.shape.count_nodes.Goals as goal

pub loop-init : goal.loop-init
loop-init c = rise_begin c.args.wide c.args.high c.requires

pub loop-preserved : goal.loop-preserved
loop-preserved c = rw c.next-level.ensures
    (rise_next (root c.args.wide c.args.high) c.loop.counter c.loop.level c.loop.invariant (sym c.is_top.ensures ∙ c.if-is_top.false))
