use Rattle.std.proofs.Common.{◌≡◌, List, ◌∷◌, [], ◌++◌, subst, sym}
use Rattle.std.proofs.lemmas.List.Elements.{All-push}
use Rattle.jx_base.specs.Sound.{IsSound}
use Rattle.jx_codeblock.specs.Recoded.{WrittenBlock}
use Rattle.jx_tier2_writer.specs.Tile.{AreMade, IsMade, made_in}
use Rattle.jx_tier2_writer.proofs.EntryLemmas.{Entry, is_made, made_more}
use Rattle.jx_plan_tests.proofs.OneTile.{IsBare, bare_next, jobs_next}
use Rattle.jx_plan_tests.proofs.values.bare_values.Goals as goal

pub loop-job-preserved : goal.loop-job-preserved
loop-job-preserved c =
    let entries : List Entry = c.loop-job.list.items in
    let values : List WrittenBlock = made_in entries in
    let more : List WrittenBlock = made_in c.push.new.self.items in
    let r : WrittenBlock = c.in_ok-value.value in
    let e : more ≡ values ++ r ∷ [] = made_more entries c.push.new.self.items c.entry_of.result r c.in_ok-push.ensures.items c.entry_of.ensures in (
      subst AreMade (sym c.in_ok-push.ensures.items) (All-push (λ (t : Entry). IsMade t.named) entries c.entry_of.result c.loop-job.invariant.0 (is_made c.entry_of.result r c.entry_of.ensures)),
      jobs_next c.args.jobs.now values more r c.job-item.result c.loop-job.job-index e c.loop-job.invariant.1 c.loop-job-test.true c.job-item.is c.in_ok-value.ensures.job,
      bare_next IsSound values more r e c.loop-job.invariant.2 c.in_ok-value.ensures.sound,
      bare_next IsBare values more r e c.loop-job.invariant.3 c.in_ok-value.ensures.bare,
    )
