use Rattle.jx_plan.proofs.CauseLemmas.{planned_blocks, planned_free}
use Rattle.jx_plan.proofs.LayerLaws.{CrowdLaws, WrittenLaws}
use Rattle.jx_plan.proofs.laws.plans_write_these_blocks.Goals as goal

pub returns-clause-blocks : goal.returns-clause-blocks
returns-clause-blocks c =
    let written : WrittenLaws = record {
      count = c.blocks_are_written.ensures.count;
      each = c.blocks_are_written.ensures.each;
      jobs = c.blocks_are_written.ensures.jobs;
    } in
    planned_blocks written

pub returns-clause-free : goal.returns-clause-free
returns-clause-free c =
    let crowds : CrowdLaws = record {
      jobs = c.crowds_are_told.ensures.jobs;
      some = c.crowds_are_told.ensures.some;
      one = c.crowds_are_told.ensures.one;
      few = c.crowds_are_told.ensures.few;
    } in
    planned_free crowds
