use Rattle.jx_transcode.proofs.AnswerLemmas.{Laws, answered_by_plan, comes_by_plan}
use Rattle.jx_transcode.proofs.laws.plans_are_carried_out.Goals as goal

laws : goal.After-one_output → Laws
laws c = record {
  blocks = c.plans_write_these_blocks.ensures.blocks;
  free = c.plans_write_these_blocks.ensures.free;
  keeps = c.rewritten_is_read.ensures;
  stand = c.read_headers_stand.ensures;
  left = c.left_means.ensures.meaning;
  parts = c.one_output.ensures.parts;
}

pub returns-clause-file : goal.returns-clause-file
returns-clause-file c = λ name work aim input s blocks p st count bytes tape old new may planned within reads is.
    answered_by_plan (laws c) name work aim input s blocks p is.written st count bytes tape old new may planned is.is is.ends within reads

pub returns-clause-memory : goal.returns-clause-memory
returns-clause-memory c = λ work aim input s blocks p st count out tape may planned within reads is. comes_by_plan (laws c) work aim input s blocks p st count out tape may planned within reads is
