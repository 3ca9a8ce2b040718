use Rattle.std.proofs.Common.{arith, rules, ◌≤◌, ◌∙◌, length, refl}
use Rattle.std.proofs.lemmas.List.{drop_all}
use Rattle.jx_rounds.proofs.PartLemmas.{parts_cut}
use Rattle.jx_rounds.proofs.TakenLemmas.{front_after, has_taken_all, has_taken_more, has_taken_none}
use Rattle.jx_rounds.proofs.buffer.put_tile.Goals as goal

pub loop-part-init : goal.loop-part-init
loop-part-init g c = record { so_far = has_taken_none _ _; empty = c.requires.empty; may = c.requires.may; same = refl; other = refl }

pub returns-in-Err-clause-front : goal.returns-in-Err-clause-front
returns-in-Err-clause-front g c =
    front_after _ (g.W.ByteWriter.written c.loop-part.writer) _ _ _ _ _ c.loop-part.invariant.so_far (parts_cut c.args.tile.now c.loop-part.part (search rules)) c.in-Err.ensures.front

pub returns-in-Err-clause-cause : goal.returns-in-Err-clause-cause
returns-in-Err-clause-cause g c = rw (← c.loop-part.invariant.same) c.in-Err.ensures.cause

pub loop-part-preserved : goal.loop-part-preserved
loop-part-preserved g c = record {
  so_far = has_taken_more _ (g.W.ByteWriter.written c.loop-part.writer) _ _ _ _ _ c.loop-part.invariant.so_far (parts_cut c.args.tile.now c.loop-part.part (search rules)) c.in-Ok.ensures.ok;
  empty = c.in-Ok.ensures.empty;
  may = rw c.put_part.ensures.other c.loop-part.invariant.may;
  same = c.in-Ok.ensures.same ∙ c.loop-part.invariant.same;
  other = c.put_part.ensures.other ∙ c.loop-part.invariant.other;
}

pub returns-clause-ok : goal.returns-clause-ok
returns-clause-ok g c =
    let end : length c.args.tile.now ≤ c.loop-part.part = search rules in
    has_taken_all _ _ _ _ c.loop-part.invariant.so_far (rw (drop_all c.loop-part.part c.args.tile.now end) refl)

pub returns-clause-front : goal.returns-clause-front
returns-clause-front g c = (_, c.loop-part.invariant.so_far)

pub returns-in-Err-clause-rose : goal.returns-in-Err-clause-rose
returns-in-Err-clause-rose g c = rw (← c.loop-part.invariant.same) c.in-Err.ensures.rose

pub returns-clause-rose : goal.returns-clause-rose
returns-clause-rose g c = λ rose. absurd (omega (arith, c.loop-part.invariant.same, rose))
