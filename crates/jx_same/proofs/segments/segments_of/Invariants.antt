use Rattle.std.proofs.Common.{◌≡◌, ◌++◌, ◌<◌, ℕ, drop, length, map}
use Rattle.jx_base.specs.Pieces.{value_of}
use Rattle.jx_codeblock.specs.Segments.{ends_below, segment_at, segment_count}
use Rattle.jx_same.specs.Lists.{bytes_at}
use Rattle.jx_same.proofs.segments.segments_of.Given as goal

abbrev pub invariant-loop-piece : goal.invariant-loop-piece
invariant-loop-piece l = record {
  number : l.number ≡ ends_below l.block.style.bits l.passed;
  long : length l.lists.items ≡ segment_count l.block.style.bits l.block.passes;
  each : (i : ℕ) → i < length l.lists.items → bytes_at (map (λ v. v.items) l.lists.items) i ++ segment_at l.block.style.bits (map value_of (drop l.piece-index l.pieces)) i
      ≡ segment_at l.block.style.bits (map value_of l.pieces) i;
}
