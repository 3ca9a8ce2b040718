use Rattle.std.proofs.Common.{sym, ◌∙◌}
use Rattle.jx_store_plain.specs.Shown.{state_of}
use Rattle.jx_store_plain.proofs.Tally.{all_on_tape}
use Rattle.jx_store_plain.proofs.locked.Locked.audit.Goals as goal

pub returns-clause-whole : goal.returns-clause-whole
returns-clause-whole g c e =
    let i = c.self.invariant in
    let a = c.audit.ensures.whole c.requires.0 in
    let d = c.audit-2.ensures.whole c.requires.1 in
    let all = all_on_tape _ c.self.inside.claims c.self.inside.commits (state_of c.self.inside.core) i.kept i.idle (i.committed ∙ sym d ∙ e ∙ a ∙ sym i.claimed) in
    all ∙ i.claimed ∙ sym a
