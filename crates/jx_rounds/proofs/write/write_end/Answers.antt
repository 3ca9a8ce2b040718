use Rattle.std.proofs.Common.{rules, ◌≡◌, ◌+◌}
use Rattle.jx_rounds.proofs.WriteLemmas.{eoc_cut, uncounted, whole_written}
use Rattle.jx_rounds.proofs.write.write_end.Goals as goal

pub returns-in_default-clause-err : goal.returns-in_default-clause-err
returns-in_default-clause-err g c = λ p head first front. uncounted p head c.args.before first (g.W.ByteWriter.written c.args.writer.now) front

pub returns-in-Ok-clause-ok : goal.returns-in-Ok-clause-ok
returns-in-Ok-clause-ok g c =
    let counted : c.in-Some.bytes ≡ c.args.before + 2 = search rules in
    λ p head first front. whole_written p head c.args.before c.in-Some.bytes first (g.W.ByteWriter.written c.args.writer.now) (g.W.ByteWriter.written c.put.new.writer) front counted c.in-Ok.ensures.ok

pub returns-in-Err-clause-err : goal.returns-in-Err-clause-err
returns-in-Err-clause-err g c =
    λ p head first front. eoc_cut p head c.args.before c.in-Err.halt first (g.W.ByteWriter.written c.args.writer.now) (g.W.ByteWriter.written c.put.new.writer) front c.in-Err.ensures.fault c.in-Err.ensures.front

pub returns-in-Err-clause-fault : goal.returns-in-Err-clause-fault
returns-in-Err-clause-fault g c = c.in-Err.ensures.fault
