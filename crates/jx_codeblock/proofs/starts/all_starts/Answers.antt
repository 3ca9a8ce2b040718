use Rattle.std.proofs.Common.{map, List, ℕ}
use Rattle.jx_base.specs.declared.pieces.Piece.{Piece}
use Rattle.jx_base.specs.Pieces.{value_of, bytes_in}
use Rattle.jx_codeblock.proofs.StartLemmas.{left_next, one_longer, starts_next}
use Rattle.jx_codeblock.proofs.starts.all_starts.Goals as goal

pub loop-piece-preserved : goal.loop-piece-preserved
loop-piece-preserved c =
    let ps : List Piece = c.args.pieces.now in
    let i : ℕ = c.loop-piece.piece-index in
    record {
      bytes = left_next ps i c.loop-piece.start (bytes_in (map value_of ps)) c.loop-piece-test.true c.loop-piece.invariant.bytes;
      long = one_longer c.loop-piece.starts.items c.push.new.self.items i c.loop-piece.start c.loop-piece.invariant.long c.in_ok-push.ensures.items;
      each = starts_next ps c.loop-piece.starts.items c.push.new.self.items i c.loop-piece.start c.loop-piece.invariant.long c.loop-piece.invariant.bytes c.in_ok-push.ensures.items
          c.loop-piece.invariant.each;
    }
