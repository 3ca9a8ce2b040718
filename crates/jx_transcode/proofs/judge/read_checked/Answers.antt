use Rattle.std.proofs.Common.{inl, refl}
use Rattle.jx_transcode.proofs.JudgeLemmas.{accepted_of, unfit_at}
use Rattle.jx_transcode.proofs.SourceLemmas.{boxes_unfit, lies_has}
use Rattle.jx_transcode.proofs.judge.read_checked.Goals as goal

pub returns-in-Err-clause-err : goal.returns-in-Err-clause-err
returns-in-Err-clause-err c = rw c.in-Err.ensures.err.0 (inl (c.in-Err.ensures.err.1, refl, refl))

pub returns-in-Err-source_of-clause-err : goal.returns-in-Err-source_of-clause-err
returns-in-Err-source_of-clause-err c = rw c.status_of_boxes.ensures
    (boxes_unfit c.args.limit c.args.file.now c.in-Err-source_of.fault c.in-Ok.ensures.ok c.in-Err-source_of.ensures.err.0 c.in-Err-source_of.ensures.err.1)

pub returns-in-Ok-read_picture-clause-ok : goal.returns-in-Ok-read_picture-clause-ok
returns-in-Ok-read_picture-clause-ok c =
    accepted_of c.args.limit c.args.file.now c.in-Ok-source_of.source.codestream.now c.in-Ok-source_of.source.from c.in-Ok-read_picture.picture.stream c.in-Ok-read_picture.picture.blocks.items c.in-Ok.ensures.ok
    (lies_has c.args.file.now c.in-Ok-source_of.source.boxed c.in-Ok-source_of.source.from c.in-Ok-source_of.source.codestream.now c.in-Ok-source_of.ensures.ok.lies) c.in-Ok-read_picture.ensures.ok

pub returns-in-Err-read_picture-clause-err : goal.returns-in-Err-read_picture-clause-err
returns-in-Err-read_picture-clause-err c = rw c.status_at.ensures
    (unfit_at c.args.limit c.args.file.now c.in-Ok-source_of.source.codestream.now c.in-Ok-source_of.source.from c.in-Err-read_picture.fault c.in-Ok.ensures.ok
    (lies_has c.args.file.now c.in-Ok-source_of.source.boxed c.in-Ok-source_of.source.from c.in-Ok-source_of.source.codestream.now c.in-Ok-source_of.ensures.ok.lies) c.in-Err-read_picture.ensures.err)
