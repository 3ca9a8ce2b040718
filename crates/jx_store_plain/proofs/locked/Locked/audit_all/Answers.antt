use Rattle.std.proofs.Common.{sym, ◌∙◌}
use Rattle.jx_store_plain.specs.Shown.{state_of}
use Rattle.jx_store_plain.proofs.Made.{all_made}
use Rattle.jx_store_plain.proofs.locked.Locked.audit_all.Goals as goal

pub returns-clause-whole : goal.returns-clause-whole
returns-clause-whole g c pd pa e =
    let i = c.self.invariant in
    let a = c.audit.ensures.whole pa in
    let d = c.audit-4.ensures.whole pd in
    all_made _ c.self.inside.claims c.self.inside.commits (state_of c.self.inside.core) i.kept i.idle (i.committed ∙ sym d ∙ e ∙ a ∙ sym i.claimed)
