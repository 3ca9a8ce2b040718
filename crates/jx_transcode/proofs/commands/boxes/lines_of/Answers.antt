use Rattle.std.proofs.Common.{refl, rules}
use Rattle.jx_transcode.proofs.BoxesLemmas.{boxes_unlisted}
use Rattle.jx_transcode.proofs.commands.boxes.lines_of.Goals as goal

pub returns-in-Err-clause-refused : goal.returns-in-Err-clause-refused
returns-in-Err-clause-refused c = rw c.in-Err.ensures.err.0 (c.in-Err.ensures.err.1, refl, refl)

pub returns-in-Err-list-clause-refused : goal.returns-in-Err-list-clause-refused
returns-in-Err-list-clause-refused c = rw c.status_of_boxes.ensures (boxes_unlisted c.args.limit c.args.input.now c.in-Err-list.fault c.in-Ok.ensures.ok (search rules) c.in-Err-list.ensures.fault)
