use Rattle.jx_transcode.proofs.OneVerdictLemmas.{Laws}
use Rattle.jx_transcode.proofs.SameVerdictLemmas.{one_of_two}
use Rattle.jx_transcode.proofs.SomeSameLemmas.{some_of_two}
use Rattle.jx_transcode.proofs.laws.same_has_one_verdict.Goals as goal

pub returns-clause-one : goal.returns-clause-one
returns-clause-one c =
    let laws : Laws = record {
      one_stream = c.one_stream.ensures;
      read = c.violated_or_spelled.ensures.never_both;
      gathered = c.never_both.ensures;
      one_blocks = c.one_gathering.ensures;
      first = c.one_first.ensures;
      broken = c.one_violation.ensures;
      free = c.one_answer.ensures.free;
      cause = c.one_answer.ensures.cause;
      parts = c.one_output.ensures.parts;
    } in
    λ limit first second s t few x y. one_of_two laws (record {
      same = c.one_codestream.ensures.same;
      either = c.one_codestream.ensures.either;
      fault = c.one_codestream.ensures.fault;
    }) c.one_file_verdict.ensures limit few first second s t x y

pub returns-clause-some : goal.returns-clause-some
returns-clause-some c = λ limit first second few. some_of_two c.some_file_verdict.ensures limit few first second
