use Rattle.jx_transcode.proofs.SomeVerdictLemmas.{Laws}
use Rattle.jx_transcode.proofs.SomeVerdictLemmas as lemmas
use Rattle.jx_transcode.proofs.laws.some_verdict.Goals as goal

pub returns : goal.returns
returns c =
    let laws : Laws = record {
      either = c.violated_or_spelled.ensures.either;
      blocks = c.one_of_both.ensures;
      may = c.gathered_may_be_planned.ensures;
      left = c.left_means.ensures.may;
      planned = c.one_answer.ensures.some;
      ready = c.written_is_ready.ensures;
      output = c.one_output.ensures.some;
      parts = c.one_output.ensures.parts;
    } in
    lemmas.some_verdict laws
