use Rattle.std.proofs.lemmas.Result.{IfErr-weaker}
use Rattle.jx_rounds.proofs.TapedLemmas.{whole_taped}
use Rattle.jx_rounds.proofs.file.write_ready.Goals as goal

pub write_codestream-requires-clause-empty : goal.write_codestream-requires-clause-empty
write_codestream-requires-clause-empty g c = λ lifetimes within. c.requires.fresh c.in-None.is

pub returns-in-Some-clause-taped : goal.returns-in-Some-clause-taped
returns-in-Some-clause-taped g c = IfErr-weaker c.write_held.result _ _ (λ h fault. whole_taped c.args.making.now _ h c.requires.plan fault (rw c.in-Some.is at c.requires.full)) c.write_held.ensures.fault
