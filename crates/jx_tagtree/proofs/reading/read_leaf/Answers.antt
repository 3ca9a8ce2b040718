use Rattle.std.proofs.Common.{◌&&◌, ◌∙◌, ap, sym, Bool, nat_lt}
use Rattle.jx_tagtree.specs.Header.{to_come}
use Rattle.jx_tagtree.proofs.OneLeafLemmas.{way_read_one}
use Rattle.jx_tagtree.proofs.reading.read_leaf.Goals as goal

pub returns-then-after-clause-ok : goal.returns-then-after-clause-ok
returns-then-after-clause-ok c =
    way_read_one c.args.threshold c.args.node.now c.in-Ok.after (to_come c.args.bits.now) (to_come c.read_node.new.bits) (nat_lt c.in-Ok.after.known c.args.threshold)
    c.in-Ok.ensures.ok (ap (λ (b : Bool). b && nat_lt c.in-Ok.after.known c.args.threshold) (sym c.if-after.true))

pub returns-else-after-clause-ok : goal.returns-else-after-clause-ok
returns-else-after-clause-ok c =
    way_read_one c.args.threshold c.args.node.now c.in-Ok.after (to_come c.args.bits.now) (to_come c.read_node.new.bits) c.in-Ok.after.settled
    c.in-Ok.ensures.ok (c.if-after.false ∙ ap (λ (b : Bool). b && nat_lt c.in-Ok.after.known c.args.threshold) (sym c.if-after.false))
