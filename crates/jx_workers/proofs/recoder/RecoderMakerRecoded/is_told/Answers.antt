use Rattle.std.proofs.Common.{◌≡◌, ℕ, ◌-◌, Some, subst, sym, ◌∙◌}
use Rattle.std.specs.List.{slice_get}
use Rattle.jx_workers.specs.Tapes.{Asked}
use Rattle.jx_workers.proofs.TapeLemmas.{told_at}
use Rattle.jx_workers.proofs.recoder.RecoderMakerRecoded.is_told.Goals as goal

pub returns : goal.returns
returns c j at =
    let k : ℕ = c.args.claim.now.number in
    let there = subst (λ (a : Asked). slice_get a.jobs (k - a.first) ≡ Some j) (sym c.self.view_is) at in
    c.is_some.ensures ∙ told_at c.self.inside.first c.self.inside.jobs.now k c.number.result c.index-self-at.result j c.number.ensures there
