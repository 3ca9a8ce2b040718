use Rattle.std.proofs.Common.{arith, rules, ◌≤◌, ◌∙◌, [], length, refl, slice_index_or}
use Rattle.std.proofs.lemmas.List.{drop_all}
use Rattle.jx_rounds.proofs.PartLemmas.{nothing_gone, piece_cut_off, piece_put, pieces_cut, pieces_put}
use Rattle.jx_rounds.proofs.buffer.put_pieces.Goals as goal

pub loop-piece-init : goal.loop-piece-init
loop-piece-init g c = record { so_far = nothing_gone _ _ _ (rw c.requires.empty refl); may = c.requires.may; same = refl; other = refl }

pub returns-in-Err-clause-front : goal.returns-in-Err-clause-front
returns-in-Err-clause-front g c =
    piece_cut_off _ (g.W.ByteWriter.written c.loop-piece.writer) _ _ c.loop-piece.buffer.items _ _ _ c.loop-piece.invariant.so_far
    (pieces_cut (slice_index_or c.args.tile.now c.args.part []) c.loop-piece.piece (search rules)) c.in-Err.ensures.front

pub returns-in-Err-clause-cause : goal.returns-in-Err-clause-cause
returns-in-Err-clause-cause g c = rw (← c.loop-piece.invariant.same) c.in-Err.ensures.cause

pub loop-piece-preserved : goal.loop-piece-preserved
loop-piece-preserved g c = record {
  so_far = piece_put _ (g.W.ByteWriter.written c.loop-piece.writer) _ _ c.loop-piece.buffer.items _ _ _ c.put_piece.new.buffer.items c.loop-piece.invariant.so_far
      (pieces_cut (slice_index_or c.args.tile.now c.args.part []) c.loop-piece.piece (search rules)) c.in-Ok.ensures.ok;
  may = rw c.put_piece.ensures.other c.loop-piece.invariant.may;
  same = c.in-Ok.ensures.same ∙ c.loop-piece.invariant.same;
  other = c.put_piece.ensures.other ∙ c.loop-piece.invariant.other;
}

pub returns-clause-ok : goal.returns-clause-ok
returns-clause-ok g c =
    let end : length (slice_index_or c.args.tile.now c.args.part []) ≤ c.loop-piece.piece = search rules in
    pieces_put _ _ _ c.loop-piece.buffer.items _ c.loop-piece.invariant.so_far (rw (drop_all c.loop-piece.piece (slice_index_or c.args.tile.now c.args.part []) end) refl)

pub returns-clause-front : goal.returns-clause-front
returns-clause-front g c = (_, c.loop-piece.invariant.so_far)

pub returns-in-Err-clause-rose : goal.returns-in-Err-clause-rose
returns-in-Err-clause-rose g c = rw (← c.loop-piece.invariant.same) c.in-Err.ensures.rose

pub returns-clause-rose : goal.returns-clause-rose
returns-clause-rose g c = λ rose. absurd (omega (arith, c.loop-piece.invariant.same, rose))
