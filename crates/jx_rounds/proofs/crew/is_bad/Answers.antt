use Rattle.std.proofs.Common.{◌∙◌, sym}
use Rattle.jx_workers.proofs.UpToLemmas.{bad_unmade, short_never}
use Rattle.jx_rounds.proofs.crew.is_bad.Goals as goal

pub returns-in-Bad : goal.returns-in-Bad
returns-in-Bad c = λ j is. sym (bad_unmade c.in-Bad.field-0 j (sym c.in-Bad.is ∙ is))

pub returns-in-Short : goal.returns-in-Short
returns-in-Short c = λ j is. absurd (short_never c.in-Short.field-0 j (sym c.in-Short.is ∙ is))
