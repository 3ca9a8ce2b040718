use Rattle.std.proofs.Common.{rules, ◌-◌, arith, length, refl}
use Rattle.std.proofs.lemmas.Slice.{take-put_mid}
use Rattle.jx_transcode.proofs.ReadLemmas.{read_answer, read_end}
use Rattle.jx_transcode.proofs.device.read_on.Goals as goal

pub returns-clause-read : goal.returns-clause-read
returns-clause-read g c =
    let bytes = c.args.bytes.now in
    read_answer c.read.result _ _ bytes _ c.read.new.into c.args.filled (omega (arith, c.requires.room))
    (take-put_mid c.args.filled (length bytes - c.args.filled) bytes c.read.new.into _ refl (omega (arith, c.requires.room))) c.read.ensures.ok c.read.ensures.room c.read.ensures.takes

pub returns-clause-end : goal.returns-clause-end
returns-clause-end g c = read_end c.read.result _ _ c.read.new.into c.read.ensures.ok (search rules) c.read.ensures.takes
