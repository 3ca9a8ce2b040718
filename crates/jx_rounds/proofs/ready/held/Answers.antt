use Rattle.std.proofs.Common.{sym}
use Rattle.jx_rounds.specs.declared.halt.Halt.TheVariants as halt
use Rattle.jx_rounds.proofs.TapedLemmas.{whole_taped}
use Rattle.jx_rounds.proofs.ready.held.Goals as goal

pub returns-in-Ok-indexed_head-clause-held : goal.returns-in-Ok-indexed_head-clause-held
returns-in-Ok-indexed_head-clause-held g c = c.in-Ok.ensures.held _ (sym c.into_bytes.ensures)

pub returns-in-Err-indexed_head-clause-taped : goal.returns-in-Err-indexed_head-clause-taped
returns-in-Err-indexed_head-clause-taped g c = whole_taped c.args.making.now _ halt.NoMemory c.requires.plan tt c.in-Ok.ensures.whole
