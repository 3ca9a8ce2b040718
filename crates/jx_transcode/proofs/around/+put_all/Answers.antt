use Rattle.jx_rounds.proofs.TakenLemmas.{front_after, front_of_later, has_taken_none}
use Rattle.jx_transcode.proofs.AroundLemmas.{pieces_cut}
use Rattle.jx_transcode.proofs.around.+put_all.Goals as goal

pub returns-in-Ok-put_all-clause-front : goal.returns-in-Ok-put_all-clause-front
returns-in-Ok-put_all-clause-front g t c =
    front_of_later (g.W.ByteWriter.written c.args.writer.now) (g.W.ByteWriter.written c.write.new.self) (g.W.ByteWriter.written c.put_all.new.writer) _ c.in-Some.piece.now.now _
    (pieces_cut c.args.pieces.now c.in-Some.rest.now c.in-Some.piece.now c.in-Some.ensures.cases.0) c.in-Ok.ensures.ok c.put_all.ensures.front

pub returns-in-Err-put_all-clause-front : goal.returns-in-Err-put_all-clause-front
returns-in-Err-put_all-clause-front g t c =
    front_of_later (g.W.ByteWriter.written c.args.writer.now) (g.W.ByteWriter.written c.write.new.self) (g.W.ByteWriter.written c.put_all.new.writer) _ c.in-Some.piece.now.now _
    (pieces_cut c.args.pieces.now c.in-Some.rest.now c.in-Some.piece.now c.in-Some.ensures.cases.0) c.in-Ok.ensures.ok c.put_all.ensures.front

pub returns-in-Err-clause-front : goal.returns-in-Err-clause-front
returns-in-Err-clause-front g t c =
    front_after (g.W.ByteWriter.written c.args.writer.now) (g.W.ByteWriter.written c.args.writer.now) (g.W.ByteWriter.written c.write.new.self) _ _ c.in-Some.piece.now.now _
    (has_taken_none (g.W.ByteWriter.written c.args.writer.now) _) (pieces_cut c.args.pieces.now c.in-Some.rest.now c.in-Some.piece.now c.in-Some.ensures.cases.0) c.in-Err.ensures.front
