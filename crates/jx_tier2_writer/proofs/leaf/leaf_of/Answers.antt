use Rattle.jx_tier2_writer.proofs.LeafLemmas.{leaf_made}
use Rattle.jx_tier2_writer.proofs.leaf.leaf_of.Goals as goal

pub returns : goal.returns
returns g c =
    leaf_made c.args.leaf (g.B.Coded.block c.args.block.now) (g.B.Coded.bytes c.args.block.now) c.parts-list.result.now c.loop-part.parts.items c.zero-zero.result c.loop-part.part-index
    c.loop-part-test.false c.parts-list.ensures c.loop-part.invariant c.zero-zero.ensures
