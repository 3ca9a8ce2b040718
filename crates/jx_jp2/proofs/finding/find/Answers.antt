use Rattle.jx_jp2.proofs.FindLemmas.{only_found, only_fault}
use Rattle.jx_jp2.proofs.finding.find.Goals as goal

pub returns-clause-one : goal.returns-clause-one
returns-clause-one c = only_found c.args.bytes.now c.next_codestream.result c.next_codestream.ensures.found c.next_codestream.ensures.fault

pub returns-clause-violated : goal.returns-clause-violated
returns-clause-violated c = only_fault c.args.bytes.now c.next_codestream.result c.next_codestream.ensures.found c.next_codestream.ensures.fault
