use Rattle.std.proofs.Common.{arith, inl, inr, refl}
use Rattle.jx_transcode.proofs.AroundLemmas.{carried_told, end_apart, ends_by, failed_by, left_by, rose_by}
use Rattle.jx_transcode.proofs.RefusedLemmas.{told_unread, told_unwritten}
use Rattle.jx_transcode.proofs.around.write_around.Goals as goal

pub returns-in-Done-clause-carried : goal.returns-in-Done-clause-carried
returns-in-Done-clause-carried g c = record {
  inner = c.made_in_memory-made.result.status;
  out = c.made_in_memory-made.result.out.items;
  is = rw (c.written_as.ensures.blocks, c.written_as.ensures.tape) c.made_in_memory-made.ensures;
  ends = inr (
    c.in-Done.is,
    ends_by c.write_form-written.result _ _ c.written_as.ensures.ok c.written_as.ensures.err,
    rw (← c.deref.ensures.value)
        (left_by c.write_form-written.result c.args.to.now _ _ _ _ _ c.written_as.ensures.ok c.written_as.ensures.err c.write_form-written.ensures.ok c.write_form-written.ensures.err c.write_form-written.ensures.count),
  );
}

pub returns-in-Done-clause-cause : goal.returns-in-Done-clause-cause
returns-in-Done-clause-cause g c = λ failed. c.write_form-written.ensures.cause (failed_by c.write_form-written.result _ _ c.written_as.ensures.ok c.written_as.ensures.err failed)

pub returns-in-Done-clause-rose : goal.returns-in-Done-clause-rose
returns-in-Done-clause-rose g c = λ rose. rose_by c.write_form-written.result _ c.written_as.result.bytes c.written_as.ensures.err (c.write_form-written.ensures.rose rose)

pub returns-in-Done-clause-read : goal.returns-in-Done-clause-read
returns-in-Done-clause-read g c = end_apart c.written_as.result.status (ends_by c.write_form-written.result _ _ c.written_as.ensures.ok c.written_as.ensures.err)

pub returns-clause-carried : goal.returns-clause-carried
returns-clause-carried g c = record {
  inner = c.made_in_memory-made.result.status;
  out = c.made_in_memory-made.result.out.items;
  is = c.made_in_memory-made.ensures;
  ends = inl (c.in_default.not-Done, refl, refl, refl);
}

pub returns-clause-cause : goal.returns-clause-cause
returns-clause-cause g c = λ failed. absurd (told_unwritten _ (carried_told _ _ _ _ _ _ c.made_in_memory-made.ensures) failed)

pub returns-clause-read : goal.returns-clause-read
returns-clause-read g c = told_unread _ (carried_told _ _ _ _ _ _ c.made_in_memory-made.ensures)

pub returns-clause-rose : goal.returns-clause-rose
returns-clause-rose g c = λ rose. absurd (omega (arith, rose))
