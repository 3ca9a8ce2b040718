use Rattle.std.proofs.Common.{◌∙◌, List, All, subst, sym}
use Rattle.jx_codeblock.specs.declared.job.Job.{Job}
use Rattle.jx_codeblock.specs.Jobs.{IsAsked}
use Rattle.jx_tier2_writer.specs.Tile.{AreValuesOf, made_in}
use Rattle.jx_tier2_writer.proofs.EntryLemmas.{Entry}
use Rattle.jx_plan_tests.proofs.OneTile.{all_asked, bare_values}
use Rattle.jx_plan_tests.proofs.assemble_tests.only_tile.Goals as goal

pub bare_values-requires : goal.bare_values-requires
bare_values-requires c =
    let P : List Job → Type 0 = λ jobs. All (λ (j : Job). IsAsked j.block.now j.style j.ends) jobs in
    subst P (sym c.jobs.ensures.value) (all_asked c.args.plan.now c.jobs.ensures.plan)

pub is_tile-requires-clause-values : goal.is_tile-requires-clause-values
is_tile-requires-clause-values c =
    let P : List Entry → Type 0 = λ entries. AreValuesOf c.args.plan.now 0 (made_in entries) in
    subst P (sym c.as_slice-entries.ensures.value)
    (bare_values c.args.plan.now (made_in c.in-Ok.values.items) c.jobs.ensures.plan c.requires (c.in-Ok.ensures.jobs ∙ c.jobs.ensures.value) c.in-Ok.ensures.sound c.in-Ok.ensures.bare)
