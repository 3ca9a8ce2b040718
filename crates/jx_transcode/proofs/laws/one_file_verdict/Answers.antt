use Rattle.jx_transcode.proofs.FileVerdictLemmas.{one_of_file}
use Rattle.jx_transcode.proofs.laws.one_file_verdict.Goals as goal

pub returns : goal.returns
returns c = λ aim input s t few x y. one_of_file c.one_verdict.ensures (record {
  same = c.one_codestream.ensures.same;
  either = c.one_codestream.ensures.either;
  fault = c.one_codestream.ensures.fault;
}) aim input s t few x y
