use Rattle.jx_transcode.proofs.OneVerdictLemmas.{Laws}
use Rattle.jx_transcode.proofs.OneVerdictLemmas as lemmas
use Rattle.jx_transcode.proofs.laws.one_verdict.Goals as goal

pub returns : goal.returns
returns c =
    let laws : Laws = record {
      one_stream = c.one_stream.ensures;
      read = c.violated_or_spelled.ensures.never_both;
      gathered = c.never_both.ensures;
      one_blocks = c.one_gathering.ensures;
      first = c.one_first.ensures;
      broken = c.one_violation.ensures;
      free = c.one_answer.ensures.free;
      cause = c.one_answer.ensures.cause;
      parts = c.one_output.ensures.parts;
    } in
    λ aim input s t few. lemmas.one_verdict laws aim input few s t
