use Rattle.std.proofs.Common.{arith, ◌∙◌, refl}
use Rattle.jx_rounds.proofs.WriteLemmas.{begins_at, first_ends, first_place, rounds_all, rounds_none, rounds_then, same_err, unwritten_after}
use Rattle.jx_rounds.proofs.TapedLemmas.{first_tape, last_place, taped_to, whole_tape}
use Rattle.jx_rounds.proofs.write.write_tiles.Goals as goal

pub loop-mark-init : goal.loop-mark-init
loop-mark-init g c = record {
  rounds = rounds_none c.args.making.now c.args.header (g.W.ByteWriter.written c.args.writer.now) c.args.lengths.now;
  place = first_place c.args.making.now;
  ends = first_ends c.args.making.now;
  tape = first_tape c.args.making.now c.args.crew.now.work c.args.tape.now.items c.requires.empty;
  buffer = c.requires.buffer;
  may = c.requires.may;
  same = refl;
  other = refl;
}

pub write_round-requires-clause-begins : goal.write_round-requires-clause-begins
write_round-requires-clause-begins g c =
    λ lifetimes within. begins_at c.args.making.now c.loop-mark.mark.tile c.loop-mark.invariant.ends (omega (arith, c.tile_count-tiles.ensures.count, c.loop-mark-test.true))

pub returns-in-Err-clause-err : goal.returns-in-Err-clause-err
returns-in-Err-clause-err g c =
    unwritten_after c.args.making.now c.loop-mark.mark.tile c.args.header c.loop-mark.mark.bytes c.in-Err.halt (g.W.ByteWriter.written c.args.writer.now) (g.W.ByteWriter.written c.loop-mark.writer)
    (g.W.ByteWriter.written c.write_round.new.writer) _ _ c.loop-mark.invariant.rounds c.in-Err.ensures.err

pub returns-in-Err-clause-tape : goal.returns-in-Err-clause-tape
returns-in-Err-clause-tape g c = rw c.in-Err.ensures.kept c.loop-mark.invariant.tape.of

pub returns-in-Err-clause-cause : goal.returns-in-Err-clause-cause
returns-in-Err-clause-cause g c = λ failed. rw (← c.loop-mark.invariant.same) (c.in-Err.ensures.cause (same_err _ _ failed))

pub loop-mark-preserved : goal.loop-mark-preserved
loop-mark-preserved g c = record {
  rounds = rounds_then c.args.making.now 0 c.loop-mark.mark.tile c.in-Ok.next.tile c.args.header c.loop-mark.mark.bytes c.in-Ok.next.bytes (g.W.ByteWriter.written c.args.writer.now) (g.W.ByteWriter.written c.loop-mark.writer)
      (g.W.ByteWriter.written c.write_round.new.writer) _ _ _ c.loop-mark.invariant.rounds c.in-Ok.ensures.ok;
  place = c.in-Ok.ensures.place;
  ends = c.in-Ok.ensures.ends;
  tape = c.in-Ok.ensures.tape;
  buffer = c.in-Ok.ensures.buffer;
  may = rw c.write_round.ensures.other c.loop-mark.invariant.may;
  same = c.in-Ok.ensures.same ∙ c.loop-mark.invariant.same;
  other = c.write_round.ensures.other ∙ c.loop-mark.invariant.other;
}

pub returns-clause-ok : goal.returns-clause-ok
returns-clause-ok g c =
    rounds_all c.args.making.now c.loop-mark.mark.tile c.tile_count-tiles.result c.loop-mark.mark.block c.args.header c.loop-mark.mark.bytes (g.W.ByteWriter.written c.args.writer.now) (g.W.ByteWriter.written c.loop-mark.writer) _ _
    c.loop-mark.invariant.place c.tile_count-tiles.ensures.count (omega (arith, c.loop-mark-test.false)) c.loop-mark.invariant.rounds

pub returns-clause-tape : goal.returns-clause-tape
returns-clause-tape g c = c.loop-mark.invariant.tape.of

pub returns-clause-whole : goal.returns-clause-whole
returns-clause-whole g c =
    whole_tape c.args.making.now c.args.crew.now.work c.loop-mark.mark.tile c.loop-mark.mark.block c.loop-mark.tape.items c.tile_count-tiles.ensures.plan c.loop-mark.invariant.place
    (omega (arith, c.tile_count-tiles.ensures.count, c.loop-mark-test.false)) c.loop-mark.invariant.tape

pub returns-in-Err-clause-rose : goal.returns-in-Err-clause-rose
returns-in-Err-clause-rose g c = λ rose. same_err _ _ (c.in-Err.ensures.rose (rw c.loop-mark.invariant.same rose))

pub returns-clause-rose : goal.returns-clause-rose
returns-clause-rose g c = λ rose. absurd (omega (arith, c.loop-mark.invariant.same, rose))

pub returns-in-Err-clause-taped : goal.returns-in-Err-clause-taped
returns-in-Err-clause-taped g c = rw c.in-Err.ensures.kept
    (taped_to c.args.making.now c.args.crew.now.work c.loop-mark.mark.tile c.loop-mark.mark.block c.in-Err.halt c.loop-mark.tape.items c.loop-mark.invariant.place c.loop-mark.invariant.ends c.loop-mark.invariant.tape c.in-Err.ensures.round)

pub returns-clause-last : goal.returns-clause-last
returns-clause-last g c = last_place c.args.making.now c.args.crew.now.work c.loop-mark.mark.tile c.loop-mark.mark.block c.loop-mark.tape.items c.loop-mark.invariant.place
    (omega (arith, c.tile_count-tiles.ensures.count, c.loop-mark-test.false)) c.loop-mark.invariant.tape
