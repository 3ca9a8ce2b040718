use Rattle.std.proofs.Common.{◌≡◌, ◌*◌, arith, length}
use Rattle.jx_tagtree.proofs.LeafLemmas.{all_highest, lowered_end, way_range}
use Rattle.jx_tagtree.proofs.tag_writer.node_values.Goals as goal

pub loop-leaf-init : goal.loop-leaf-init
loop-leaf-init c = all_highest c.args.wide c.args.high c.args.leaves.now c.count_nodes.result c.in_ok-values.values.items c.count_nodes.ensures c.in_ok-values.ensures

pub lower-requires : goal.lower-requires
lower-requires c = way_range c.args.wide c.args.high c.loop-leaf.leaf c.new.result c.loop-leaf.values.items c.requires.shape c.loop-leaf-test.true c.new.ensures c.loop-leaf.invariant.long

pub returns : goal.returns
returns c =
    let all : length c.args.leaves.now ≡ c.args.wide * c.args.high = c.requires.leaves in
    lowered_end c.args.wide c.args.high c.args.leaves.now c.loop-leaf.leaf c.loop-leaf.values.items (omega arith) c.loop-leaf.invariant
