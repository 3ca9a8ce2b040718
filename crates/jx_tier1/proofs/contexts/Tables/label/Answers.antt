use Rattle.std.proofs.Common.{ℕ, ◌∙◌, sym}
use Rattle.jx_tier1.specs.Contexts.{HasFirsts}
use Rattle.jx_tier1.proofs.ContextLemmas.{first_read}
use Rattle.jx_tier1.proofs.contexts.Tables.label.Goals as goal

pub returns-clause-label : goal.returns-clause-label
returns-clause-label c = λ k g x y signs e s f.
    let items = c.self.inside.firsts.now in
    let n : ℕ = c.label_index.result in
    let h : HasFirsts c.self.inside.band 512 items = c.self.invariant in
    first_read k g c.self.inside.band items x y c.args.window signs c.args.place n h (e ∙ sym c.self.view_is) c.requires s f c.label_index.ensures

pub returns-clause-few : goal.returns-clause-few
returns-clause-few c =
    let items = c.self.inside.firsts.now in
    let n : ℕ = c.label_index.result in
    let h : HasFirsts c.self.inside.band 512 items = c.self.invariant in
    h.few n c.label_index.ensures.few
