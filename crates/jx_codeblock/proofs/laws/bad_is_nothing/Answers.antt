use Rattle.jx_codeblock.proofs.AnewLemmas.{bad_is, nothing_is_bad}
use Rattle.jx_codeblock.proofs.laws.bad_is_nothing.Goals as goal

pub returns-clause-bad : goal.returns-clause-bad
returns-clause-bad c j e = bad_is j e

pub returns-clause-nothing : goal.returns-clause-nothing
returns-clause-nothing c j e = nothing_is_bad j e
