use Rattle.jx_transcode.proofs.OneVerdictLemmas.{Laws}
use Rattle.jx_transcode.proofs.OneFileLemmas.{at_limit, one_file, same_files, same_runs}
use Rattle.jx_transcode.proofs.laws.one_file.Goals as goal

laws : goal.After-one_codestream → Laws
laws c = record {
  one_stream = c.one_stream.ensures;
  read = c.violated_or_spelled.ensures.never_both;
  gathered = c.never_both.ensures;
  one_blocks = c.one_gathering.ensures;
  first = c.one_first.ensures;
  broken = c.one_violation.ensures;
  free = c.one_answer.ensures.free;
  cause = c.one_answer.ensures.cause;
  parts = c.one_output.ensures.parts;
}

pub returns-clause-file : goal.returns-clause-file
returns-clause-file c aim input out other short x y = one_file (laws c) c.one_output.ensures.one aim input short out other x y

pub returns-clause-limits : goal.returns-clause-limits
returns-clause-limits c aim limit input out other short x y =
    one_file (laws c) c.one_output.ensures.one aim input short out other x (at_limit aim limit input other y)

pub returns-clause-runs : goal.returns-clause-runs
returns-clause-runs c name again work other aim input blocks bytes blocks2 bytes2 tape tape2 old new old2 new2 few x y =
    same_runs (laws c) c.one_output.ensures.one aim few name again work other input blocks bytes blocks2 bytes2 tape tape2 old new old2 new2 x y

pub returns-clause-boxed : goal.returns-clause-boxed
returns-clause-boxed c name again work other form aim input boxed boxed2 blocks bytes blocks2 bytes2 tape tape2 old new old2 new2 few x y =
    same_files (laws c) c.one_output.ensures.one aim few c.one_codestream.ensures.same name again work other form input boxed boxed2 blocks bytes blocks2 bytes2 tape tape2 old new old2 new2 x y
