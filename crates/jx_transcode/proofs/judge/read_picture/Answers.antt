use Rattle.std.proofs.Common.{refl}
use Rattle.jx_transcode.proofs.RefusedLemmas.{header_cause, reads_of, tile_cause}
use Rattle.jx_transcode.proofs.judge.read_picture.Goals as goal

pub returns-in-Err-clause-err : goal.returns-in-Err-clause-err
returns-in-Err-clause-err c = header_cause c.args.codestream.now c.in-Err.fault (c.in-Err.ensures.first c.in-Err.fault refl)

pub returns-in-Ok-gather-clause-ok : goal.returns-in-Ok-gather-clause-ok
returns-in-Ok-gather-clause-ok c = reads_of c.args.codestream.now c.in-Ok.stream c.in-Ok-gather.blocks.items c.in-Ok.ensures.read c.in-Ok-gather.ensures.totals c.in-Ok-gather.ensures.gathered

pub returns-in-Ok-gather-clause-may : goal.returns-in-Ok-gather-clause-may
returns-in-Ok-gather-clause-may c =
    c.gathered_may_be_planned.ensures c.args.codestream.now c.in-Ok.stream c.in-Ok-gather.blocks.items c.in-Ok.ensures.read c.requires.within c.in-Ok-gather.ensures.totals c.in-Ok-gather.ensures.gathered

pub returns-clause-err : goal.returns-clause-err
returns-clause-err c = tile_cause c.args.codestream.now c.in-Ok.stream c.in-Err-gather.fault c.in-Ok.ensures.read c.in-Err-gather.ensures.broken
