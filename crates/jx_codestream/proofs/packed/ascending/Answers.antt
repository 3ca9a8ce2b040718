use Rattle.std.proofs.Common.{[], get_or}
use Rattle.jx_codestream.specs.declared.packed.PackedSegment.{PackedSegment}
use Rattle.jx_codestream.specs.PackedHeaders.{ascending}
use Rattle.jx_codestream.proofs.PackedLemmas.{ascends, below_next}
use Rattle.jx_codestream.proofs.packed.ascending.Goals as goal

pub loop-next-preserved : goal.loop-next-preserved
loop-next-preserved c =
    let none : PackedSegment = record { place = 0; index = 0; length = 0 } in
    record {
      same = ascends c.loop-next.sorted.items c.insert.new.sorted.items c.args.packed.now c.loop-next.next-index none (ascending [] c.args.packed.now) c.loop-next-test.true c.in_ok-insert.ensures c.loop-next.invariant.same;
      most = below_next c.loop-next.sorted.items c.insert.new.sorted.items (get_or c.args.packed.now c.loop-next.next-index none) c.loop-next.most c.max-most.result c.loop-next.invariant.most c.max-most.ensures c.in_ok-insert.ensures;
    }
