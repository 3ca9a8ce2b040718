use Rattle.std.proofs.Common.{◌≡◌, ap, arith}
use Rattle.jx_jp2.specs.declared.Boxed.{Boxed}
use Rattle.jx_jp2.specs.Heads.{from_at}
use Rattle.jx_jp2.proofs.WrapLemmas.{placed}
use Rattle.jx_jp2.proofs.laws.codestream_lies_within.Goals as goal

pub returns-clause-head : goal.returns-clause-head
returns-clause-head c = λ bytes boxed found. let from : boxed.from ≡ from_at bytes boxed.head = ap (λ (b : Boxed). b.from) found.is in omega (arith, from)

pub returns-clause-content : goal.returns-clause-content
returns-clause-content c = λ bytes boxed found. (placed bytes boxed found).content

pub returns-clause-end : goal.returns-clause-end
returns-clause-end c = λ bytes boxed found. (placed bytes boxed found).end
