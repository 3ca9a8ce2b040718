use Rattle.jx_plan.proofs.BlocksWritten.{written_kept, written_sound, written_stand}
use Rattle.jx_plan.proofs.LayerLaws.{CrowdLaws, EndLaws, InLayers, WrittenLaws}
use Rattle.jx_plan.proofs.laws.written_blocks_stand.Goals as goal

own : goal.After-crowds_are_told → InLayers
own c = record {
  own = c.written_in_layers.ensures.own;
  sound = c.written_in_layers.ensures.sound;
  name = c.written_in_layers.ensures.name;
  rect = c.written_in_layers.ensures.rect;
  planes = c.written_in_layers.ensures.planes;
  zero = c.written_in_layers.ensures.zero;
  style = c.written_in_layers.ensures.style;
  kept = c.written_in_layers.ensures.kept;
  empty = c.written_in_layers.ensures.empty;
  layers = c.written_in_layers.ensures.layers;
  each = c.written_in_layers.ensures.each;
  cuts = c.written_in_layers.ensures.cuts;
}

ends : goal.After-crowds_are_told → EndLaws
ends c = record {
  asked = c.jobs_have_these_ends.ensures.asked;
  written = c.jobs_have_these_ends.ensures.written;
  kept = c.jobs_have_these_ends.ensures.kept;
}

written : goal.After-crowds_are_told → WrittenLaws
written c = record {
  count = c.blocks_are_written.ensures.count;
  each = c.blocks_are_written.ensures.each;
  jobs = c.blocks_are_written.ensures.jobs;
}

crowds : goal.After-crowds_are_told → CrowdLaws
crowds c = record {
  jobs = c.crowds_are_told.ensures.jobs;
  some = c.crowds_are_told.ensures.some;
  one = c.crowds_are_told.ensures.one;
  few = c.crowds_are_told.ensures.few;
}

pub returns-clause-blocks : goal.returns-clause-blocks
returns-clause-blocks c = written_stand (own c) (ends c) (written c) (crowds c)

pub returns-clause-sound : goal.returns-clause-sound
returns-clause-sound c = written_sound (own c) (ends c) (written c)

pub returns-clause-kept : goal.returns-clause-kept
returns-clause-kept c = λ w s blocks plain may. written_kept (own c) c.written_in_own_layers.ensures.kept (ends c) (written c) s blocks may w plain
