use Rattle.std.proofs.Common.{rules, ◌≡◌, ◌∙◌, ◌<◌, ◌++◌, ◌∷◌, [], length, ap, sym}
use Rattle.jx_codeblock.specs.Recoded.{WrittenBlock}
use Rattle.jx_store.specs.declared.event.Taped.{Taped}
use Rattle.jx_store.specs.declared.work.Named.{Named}
use Rattle.jx_rounds.proofs.TapedLemmas.{alone_bad, alone_next, alone_none}
use Rattle.jx_rounds.proofs.crew.put_alone.Goals as goal

pub loop-job-init : goal.loop-job-init
loop-job-init g c = rw c.requires.empty (alone_none c.args.jobs.now)

pub loop-job-preserved : goal.loop-job-preserved
loop-job-preserved g c =
    let there : c.loop-job.job-index < length c.args.jobs.now = search rules in
    let items : c.push.new.self.items ≡ c.loop-job.entries.items ++ c.in_ok-entry.entry ∷ [] = search rules in
    let named = ap (λ (t : Taped (Named WrittenBlock)). t.named) c.in_ok-entry.ensures in
    alone_next c.args.jobs.now c.loop-job.job-index c.loop-job.entries.items c.push.new.self.items c.in_ok-entry.entry c.job-item.result c.loop-job.invariant there c.job-item.is items c.in_ok-entry.ensures
    (sym (c.is_bad-is_last.ensures c.job-item.result named) ∙ c.if-is_last.false)

pub returns-then-is_last : goal.returns-then-is_last
returns-then-is_last g c =
    let there : c.loop-job.job-index < length c.args.jobs.now = search rules in
    let items : c.push.new.self.items ≡ c.loop-job.entries.items ++ c.in_ok-entry.entry ∷ [] = search rules in
    let named = ap (λ (t : Taped (Named WrittenBlock)). t.named) c.in_ok-entry.ensures in
    alone_bad c.args.jobs.now c.loop-job.job-index c.loop-job.entries.items c.push.new.self.items c.in_ok-entry.entry c.job-item.result c.loop-job.invariant there c.job-item.is items c.in_ok-entry.ensures
    (sym (c.is_bad-is_last.ensures c.job-item.result named) ∙ c.if-is_last.true)
