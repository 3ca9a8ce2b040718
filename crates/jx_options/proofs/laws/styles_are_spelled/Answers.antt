use Rattle.jx_options.proofs.StyleLemmas.{style_read, style_spelled}
use Rattle.jx_options.proofs.laws.styles_are_spelled.Goals as goal

pub returns-clause-spelled : goal.returns-clause-spelled
returns-clause-spelled c = λ style may. style_spelled style may

pub returns-clause-read : goal.returns-clause-read
returns-clause-read c = λ text style is. style_read text style is
