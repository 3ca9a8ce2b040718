use Rattle.std.proofs.Common.{◌≡◌, ◌++◌, map, drop, false}
use Rattle.jx_base.specs.Pieces.{value_of}
use Rattle.jx_codeblock.specs.Groups.{goes_on, groups}
use Rattle.jx_codeblock.proofs.segments.segments_apart.Given as goal

abbrev pub invariant-loop-piece : goal.invariant-loop-piece
invariant-loop-piece l = record {
  listed : l.segments ++ groups l.fn.style.bits (map value_of (drop l.piece-index l.pieces)) ≡ groups l.fn.style.bits (map value_of l.pieces);
  apart : goes_on l.fn.style.bits (map value_of (drop l.piece-index l.pieces)) ≡ false;
}
