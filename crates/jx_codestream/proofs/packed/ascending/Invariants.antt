use Rattle.std.proofs.Common.{◌≡◌, ◌≤◌, [], drop}
use Rattle.std.specs.List.{All}
use Rattle.jx_codestream.specs.declared.packed.PackedSegment.{PackedSegment}
use Rattle.jx_codestream.specs.PackedHeaders.{ascending}
use Rattle.jx_codestream.proofs.packed.ascending.Given as goal

abbrev pub invariant-loop-next : goal.invariant-loop-next
invariant-loop-next l = record {
  same : ascending l.sorted.items (drop l.next-index l.packed) ≡ ascending [] l.packed;
  most : All (λ (other : PackedSegment). other.index ≤ l.most) l.sorted.items;
}
