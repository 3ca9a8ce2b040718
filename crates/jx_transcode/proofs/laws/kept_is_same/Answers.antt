use Rattle.jx_transcode.proofs.KeptSameLemmas.{kept_same}
use Rattle.jx_transcode.proofs.ReducedLemmas.{WholeLaws}
use Rattle.jx_transcode.proofs.laws.kept_is_same.Goals as goal

pub returns : goal.returns
returns c =
    let laws : WholeLaws = record {
      may = c.gathered_may_be_planned.ensures;
      stream = c.whole_stays.ensures.stream;
      blocks = c.whole_stays.ensures.blocks;
      free = c.whole_stays.ensures.free;
    } in
    kept_same laws
