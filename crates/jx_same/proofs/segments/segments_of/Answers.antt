use Rattle.std.proofs.Common.{◌∙◌, ◌<◌, ◌++◌, ℕ, List, ap, arith, get_or, length, map, refl}
use Rattle.jx_base.specs.Pieces.{value_of}
use Rattle.jx_codeblock.specs.Segments.{segment_at}
use Rattle.jx_same.proofs.SegmentLemmas.{no_piece, put_goes, rows_are, segment_ends, segment_goes}
use Rattle.jx_same.proofs.segments.segments_of.Goals as goal

pub loop-piece-init : goal.loop-piece-init
loop-piece-init c = record {
  number = refl;
  long = c.in_ok-lists.ensures.long ∙ c.segment_count.ensures;
  each = λ i inside. ap (λ (xs : List ℕ). xs ++ segment_at c.args.block.now.style.bits (map value_of c.as_slice-pieces.result.now) i) (c.in_ok-lists.ensures.none i);
}

pub loop-piece-preserved : goal.loop-piece-preserved
loop-piece-preserved c =
    let style = c.args.block.now.style.bits in
    let pieces = c.as_slice-pieces.result.now in
    let k = c.loop-piece.piece-index in
    record {
      number = c.ends_from-number.ensures;
      long = c.in_ok-put_bytes.ensures.long ∙ c.loop-piece.invariant.long;
      each = λ i inside.
          (let before : i < length c.loop-piece.lists.items = omega (arith, inside, c.in_ok-put_bytes.ensures.long) in
          segment_goes style i pieces k no_piece _ _ _ c.loop-piece-test.true (c.loop-piece.invariant.each i before)
          (put_goes style i c.ends_from-number.result (get_or pieces k no_piece) _ _ c.ends_from-number.ensures (c.in_ok-put_bytes.ensures.each i before)));
    }

pub returns : goal.returns
returns c =
    let style = c.args.block.now.style.bits in
    let pieces = c.as_slice-pieces.result.now in
    rows_are c.args.block.now c.loop-piece.lists.items (map value_of pieces) c.as_slice-pieces.ensures c.loop-piece.invariant.long
    (λ i inside. segment_ends style i pieces c.loop-piece.piece-index _ (omega (arith, c.loop-piece-test.false)) (c.loop-piece.invariant.each i inside))
