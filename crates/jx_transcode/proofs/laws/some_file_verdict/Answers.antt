use Rattle.jx_transcode.proofs.FileVerdictLemmas.{some_of_file}
use Rattle.jx_transcode.proofs.laws.some_file_verdict.Goals as goal

pub returns : goal.returns
returns c = λ aim input may bytes. some_of_file c.some_verdict.ensures c.some_codestream.ensures aim may input bytes
