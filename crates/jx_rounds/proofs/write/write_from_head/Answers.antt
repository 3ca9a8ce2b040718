use Rattle.std.proofs.Common.{◌∙◌, inr, refl}
use Rattle.std.proofs.lemmas.Result.{IfErr-weaker, IfOk-weaker, on_ok_weaker}
use Rattle.jx_rounds.proofs.TapedLemmas.{fault_taped, tape_none}
use Rattle.jx_rounds.proofs.WriteLemmas.{first_ends, first_place, front_after, halted_after, head_cut, same_err}
use Rattle.jx_rounds.proofs.write.write_from_head.Goals as goal

pub write_tiles-requires-clause-may : goal.write_tiles-requires-clause-may
write_tiles-requires-clause-may g c = λ lifetimes within. rw c.put.ensures.other c.requires.may

pub write_end-requires : goal.write_end-requires
write_end-requires g c = record { may = rw (c.write_tiles.ensures.other, c.put.ensures.other) c.requires.may }

pub returns-in-Ok-write_tiles-clause-ok : goal.returns-in-Ok-write_tiles-clause-ok
returns-in-Ok-write_tiles-clause-ok g c = IfOk-weaker c.write_end.result _ _ (λ bytes whole. whole c.args.making.now c.args.head.now (g.W.ByteWriter.written c.args.writer.now)
    (front_after c.args.making.now c.args.head.now _ c.in-Ok-write_tiles.before (g.W.ByteWriter.written c.args.writer.now) (g.W.ByteWriter.written c.put.new.writer)
    (g.W.ByteWriter.written c.write_tiles.new.writer) _ _ c.in-Ok.ensures.ok c.in-Ok-write_tiles.ensures.ok)) c.write_end.ensures.ok

pub returns-in-Ok-write_tiles-clause-err : goal.returns-in-Ok-write_tiles-clause-err
returns-in-Ok-write_tiles-clause-err g c = IfErr-weaker c.write_end.result _ _ (λ h halted. halted c.args.making.now c.args.head.now (g.W.ByteWriter.written c.args.writer.now)
    (front_after c.args.making.now c.args.head.now _ c.in-Ok-write_tiles.before (g.W.ByteWriter.written c.args.writer.now) (g.W.ByteWriter.written c.put.new.writer)
    (g.W.ByteWriter.written c.write_tiles.new.writer) _ _ c.in-Ok.ensures.ok c.in-Ok-write_tiles.ensures.ok)) c.write_end.ensures.err

pub returns-in-Ok-write_tiles-clause-tape : goal.returns-in-Ok-write_tiles-clause-tape
returns-in-Ok-write_tiles-clause-tape g c = c.write_tiles.ensures.tape

pub returns-in-Ok-write_tiles-clause-whole : goal.returns-in-Ok-write_tiles-clause-whole
returns-in-Ok-write_tiles-clause-whole g c = on_ok_weaker c.write_end.result (λ same. c.in-Ok-write_tiles.ensures.whole) c.write_end.ensures.same

pub returns-in-Ok-write_tiles-clause-cause : goal.returns-in-Ok-write_tiles-clause-cause
returns-in-Ok-write_tiles-clause-cause g c = rw (← c.in-Ok.ensures.same, ← c.in-Ok-write_tiles.ensures.same) c.write_end.ensures.cause

pub returns-in-Ok-write_tiles-clause-same : goal.returns-in-Ok-write_tiles-clause-same
returns-in-Ok-write_tiles-clause-same g c = on_ok_weaker c.write_end.result (λ same. same ∙ c.in-Ok-write_tiles.ensures.same ∙ c.in-Ok.ensures.same) c.write_end.ensures.same

pub returns-in-Ok-write_tiles-clause-other : goal.returns-in-Ok-write_tiles-clause-other
returns-in-Ok-write_tiles-clause-other g c = c.write_end.ensures.other ∙ c.write_tiles.ensures.other ∙ c.put.ensures.other

pub returns-in-Err-write_tiles-clause-err : goal.returns-in-Err-write_tiles-clause-err
returns-in-Err-write_tiles-clause-err g c = halted_after c.args.making.now c.args.head.now c.in-Err-write_tiles.halt (g.W.ByteWriter.written c.args.writer.now) (g.W.ByteWriter.written c.put.new.writer)
    (g.W.ByteWriter.written c.write_tiles.new.writer) c.in-Ok.ensures.ok c.in-Err-write_tiles.ensures.err

pub returns-in-Err-write_tiles-clause-tape : goal.returns-in-Err-write_tiles-clause-tape
returns-in-Err-write_tiles-clause-tape g c = c.write_tiles.ensures.tape

pub returns-in-Err-write_tiles-clause-cause : goal.returns-in-Err-write_tiles-clause-cause
returns-in-Err-write_tiles-clause-cause g c = rw (← c.in-Ok.ensures.same) c.in-Err-write_tiles.ensures.cause

pub returns-in-Err-write_tiles-clause-other : goal.returns-in-Err-write_tiles-clause-other
returns-in-Err-write_tiles-clause-other g c = c.write_tiles.ensures.other ∙ c.put.ensures.other

pub returns-in-Err-clause-err : goal.returns-in-Err-clause-err
returns-in-Err-clause-err g c = head_cut c.args.making.now c.args.head.now c.in-Err.halt (g.W.ByteWriter.written c.args.writer.now) (g.W.ByteWriter.written c.put.new.writer) c.in-Err.ensures.fault c.in-Err.ensures.front

pub returns-in-Err-clause-tape : goal.returns-in-Err-clause-tape
returns-in-Err-clause-tape g c = rw c.requires.empty (tape_none c.args.crew.now.work c.args.making.now.blocks)

pub returns-in-Err-clause-cause : goal.returns-in-Err-clause-cause
returns-in-Err-clause-cause g c = λ failed. c.in-Err.ensures.cause (same_err _ _ failed)

pub returns-in-Err-clause-other : goal.returns-in-Err-clause-other
returns-in-Err-clause-other g c = c.put.ensures.other

pub returns-in-Ok-write_tiles-clause-rose : goal.returns-in-Ok-write_tiles-clause-rose
returns-in-Ok-write_tiles-clause-rose g c = rw (← c.in-Ok.ensures.same, ← c.in-Ok-write_tiles.ensures.same) c.write_end.ensures.rose

pub returns-in-Err-write_tiles-clause-rose : goal.returns-in-Err-write_tiles-clause-rose
returns-in-Err-write_tiles-clause-rose g c = rw (← c.in-Ok.ensures.same) c.in-Err-write_tiles.ensures.rose

pub returns-in-Err-clause-rose : goal.returns-in-Err-clause-rose
returns-in-Err-clause-rose g c = λ rose. same_err _ _ (c.in-Err.ensures.rose rose)

pub returns-in-Ok-write_tiles-clause-taped : goal.returns-in-Ok-write_tiles-clause-taped
returns-in-Ok-write_tiles-clause-taped g c =
    IfErr-weaker c.write_end.result _ _ (λ h fault. fault_taped c.args.making.now _ _ h fault c.in-Ok-write_tiles.ensures.last (inr refl)) c.write_end.ensures.fault

pub returns-in-Err-write_tiles-clause-taped : goal.returns-in-Err-write_tiles-clause-taped
returns-in-Err-write_tiles-clause-taped g c = c.in-Err-write_tiles.ensures.taped

pub returns-in-Err-clause-taped : goal.returns-in-Err-clause-taped
returns-in-Err-clause-taped g c = rw c.requires.empty (fault_taped c.args.making.now 0 0 c.in-Err.halt c.in-Err.ensures.fault (first_place c.args.making.now) (first_ends c.args.making.now))
