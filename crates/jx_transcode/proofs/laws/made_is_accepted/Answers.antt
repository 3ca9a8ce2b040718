use Rattle.jx_transcode.proofs.AcceptedLemmas.{AllAccepted, no_rule, seven_alone}
use Rattle.jx_transcode.proofs.OneVerdictLemmas.{Laws}
use Rattle.jx_transcode.proofs.laws.made_is_accepted.Goals as goal

laws : goal.After-one_output → Laws
laws c = record {
  one_stream = c.one_stream.ensures;
  read = c.violated_or_spelled.ensures.never_both;
  gathered = c.never_both.ensures;
  one_blocks = c.one_gathering.ensures;
  first = c.one_first.ensures;
  broken = c.one_violation.ensures;
  free = c.one_answer.ensures.free;
  cause = c.one_answer.ensures.cause;
  parts = c.one_output.ensures.parts;
}

law : goal.After-one_output → AllAccepted
law c = record { accepted = c.made_is_well_formed.ensures.accepted; short = c.made_is_short.ensures }

pub returns-clause-rules : goal.returns-clause-rules
returns-clause-rules c = no_rule (laws c) (law c)

pub returns-clause-limits : goal.returns-clause-limits
returns-clause-limits c = seven_alone (laws c) (law c)
