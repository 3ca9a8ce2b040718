use Rattle.std.proofs.Common.{ℕ, ◌+◌, ◌<◌, ◌≤◌, length, subst, sym}
use Rattle.jx_store.specs.Valid.{IsOf}
use Rattle.jx_codeblock.specs.Recoded.{WrittenBlock, is_bad}
use Rattle.jx_workers.specs.Tapes.{Asked}
use Rattle.jx_workers.proofs.TapeLemmas.{asked_at, committed_of}
use Rattle.jx_workers.proofs.recoder.RecoderMakerRecoded.make.Goals as goal

pub answer-requires : goal.answer-requires
answer-requires c =
    let k : ℕ = c.args.claim.now.number in
    let range = subst (λ (a : Asked). (a.first ≤ k) × (k < a.first + length a.jobs)) (sym c.self.view_is) c.requires in
    asked_at c.self.inside.first c.self.inside.jobs.now k c.number.result c.index-self-place.result c.self.invariant range.0 range.1 c.number.ensures

pub returns : goal.returns
returns c =
    let k : ℕ = c.args.claim.now.number in
    let range = subst (λ (a : Asked). (a.first ≤ k) × (k < a.first + length a.jobs)) (sym c.self.view_is) c.requires in
    let made = committed_of c.self.inside.first c.self.inside.jobs.now k c.number.result c.index-self-place.result c.answer.result c.self.invariant range.0 range.1 c.number.ensures c.answer.ensures in
    subst (λ (a : Asked). IsOf (λ (r : WrittenBlock). r.job.number) (λ (r : WrittenBlock). r.job) is_bad a.first a.jobs k c.answer.result) c.self.view_is made
