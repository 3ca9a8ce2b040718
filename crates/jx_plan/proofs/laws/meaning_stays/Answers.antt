use Rattle.jx_plan.proofs.LayerLaws.{CellLaws, EndLaws}
use Rattle.jx_plan.proofs.MeaningLemmas.{meaning_with_more, meaning_written}
use Rattle.jx_plan.proofs.laws.meaning_stays.Goals as goal

pub returns-clause-written : goal.returns-clause-written
returns-clause-written c =
    let cells : CellLaws = record {
      name = c.written_in_layers.ensures.name;
      rect = c.written_in_layers.ensures.rect;
      zero = c.written_in_layers.ensures.zero;
      passes = c.written_in_layers.ensures.passes;
      cells = c.written_in_layers.ensures.cells;
    } in
    let ends : EndLaws = record {
      asked = c.jobs_have_these_ends.ensures.asked;
      written = c.jobs_have_these_ends.ensures.written;
      kept = c.jobs_have_these_ends.ensures.kept;
    } in
    meaning_written cells ends

pub returns-clause-more : goal.returns-clause-more
returns-clause-more c = meaning_with_more
