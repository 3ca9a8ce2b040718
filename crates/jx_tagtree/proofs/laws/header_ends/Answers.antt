use Rattle.jx_tagtree.proofs.LawLemmas.{ends_at, ends_only}
use Rattle.jx_tagtree.proofs.laws.header_ends.Goals as goal

pub returns-clause-ends : goal.returns-clause-ends
returns-clause-ends c = λ bytes n used enough h. ends_at bytes n used enough h

pub returns-clause-only : goal.returns-clause-only
returns-clause-only c = ends_only
