use Rattle.jx_transcode.proofs.ReducedLemmas.{WholeLaws}
use Rattle.jx_transcode.proofs.SamplingLemmas as lemmas
use Rattle.jx_transcode.proofs.laws.fewer_differ.Goals as goal

pub returns : goal.returns
returns c =
    let laws : WholeLaws = record {
      may = c.gathered_may_be_planned.ensures;
      stream = c.whole_stays.ensures.stream;
      blocks = c.whole_stays.ensures.blocks;
      free = c.whole_stays.ensures.free;
    } in
    lemmas.fewer_differ laws
