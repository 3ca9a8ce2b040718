use Rattle.std.proofs.Common.{List, map, take, subst, sym}
use Rattle.jx_store.specs.declared.event.Taped.{Taped}
use Rattle.jx_store.specs.declared.work.Named.{Named}
use Rattle.jx_codeblock.specs.Recoded.{WrittenBlock}
use Rattle.jx_workers.specs.declared.workers.Limits.{Limits}
use Rattle.jx_workers.specs.Tapes.{AreAsked, IsTape}
use Rattle.jx_workers.specs.Committed.{IsRightFront}
use Rattle.jx_workers.proofs.TapeLemmas.{few_bytes, tape_is}
use Rattle.jx_workers.proofs.pool.recode_all.Goals as goal

pub sizes_of-requires : goal.sizes_of-requires
sizes_of-requires g c = few_bytes c.args.first c.args.jobs.now c.requires.jobs

pub returns : goal.returns
returns g c =
    let e = c.in_ok-entries.ensures in
    let limits : Limits = c.new-limits.result in let same = c.new-limits.ensures in let jobs = c.args.jobs.now in let entries = c.in_ok-entries.entries.items in
    let front = subst (λ (l : List (Taped (Named WrittenBlock))). IsRightFront (map (λ (t : Taped (Named WrittenBlock)). t.named) l) c.in-Some.count) c.as_slice-2.ensures.value c.in-Some.ensures in
    let asked = subst (λ (l : Limits). AreAsked l.first jobs) (sym same) c.requires.jobs in
    let tape = subst (λ (l : Limits). IsTape jobs l.first l.threads l.window l.most (take c.in-Some.count entries)) same
    (tape_is jobs limits.first limits.threads limits.window limits.most c.in-Some.count entries asked e.order e.each e.ended front) in
    subst (λ (l : List (Taped (Named WrittenBlock))). IsTape jobs c.args.first c.args.threads c.args.window c.args.most l) (sym c.truncate.ensures.items) tape
