use Rattle.std.proofs.Common.{refl}
use Rattle.jx_transcode.proofs.ReducedLemmas.{WholeLaws, all_left, left_reads}
use Rattle.jx_transcode.proofs.laws.all_is_left.Goals as goal

laws : goal.After-whole_stays → WholeLaws
laws c = record {
  may = c.gathered_may_be_planned.ensures;
  stream = c.whole_stays.ensures.stream;
  blocks = c.whole_stays.ensures.blocks;
  free = c.whole_stays.ensures.free;
}

pub returns-clause-left : goal.returns-clause-left
returns-clause-left c = λ input s blocks short reads. all_left (laws c) input s blocks short reads

pub returns-clause-reads : goal.returns-clause-reads
returns-clause-reads c = λ input s blocks short left. left_reads (laws c) 0 input s blocks short refl left
