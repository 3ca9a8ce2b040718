use Rattle.jx_transcode.proofs.AcceptedLemmas.{AllAccepted}
use Rattle.jx_transcode.proofs.MadeVerdictLemmas.{no_block, no_choice, no_limit, no_seven}
use Rattle.jx_transcode.proofs.OneVerdictLemmas.{Laws}
use Rattle.jx_transcode.proofs.PlannedMade.{MadeLaws, right_in}
use Rattle.jx_transcode.proofs.ReducedLemmas.{WholeLaws}
use Rattle.jx_transcode.proofs.ShortMade.{ShortLaws}
use Rattle.jx_transcode.proofs.laws.made_is_planned.Goals as goal

made : goal.After-one_output → MadeLaws
made c = record {
  may = c.gathered_may_be_planned.ensures;
  fit = c.kept_precincts_fit.ensures;
  few = c.groups_are_cut.ensures.few;
  plain = c.made_blocks_are_plain.ensures;
  tiles = c.made_geometry.ensures.tiles;
  precincts = c.made_geometry.ensures.precincts;
  levels = c.made_geometry.ensures.levels;
}

laws : goal.After-one_output → Laws
laws c = record {
  one_stream = c.one_stream.ensures;
  read = c.violated_or_spelled.ensures.never_both;
  gathered = c.never_both.ensures;
  one_blocks = c.one_gathering.ensures;
  first = c.one_first.ensures;
  broken = c.one_violation.ensures;
  free = c.one_answer.ensures.free;
  cause = c.one_answer.ensures.cause;
  parts = c.one_output.ensures.parts;
}

law : goal.After-one_output → AllAccepted
law c = record { accepted = c.made_is_well_formed.ensures.accepted; short = c.made_is_short.ensures }

whole : goal.After-one_output → WholeLaws
whole c = record {
  may = c.gathered_may_be_planned.ensures;
  stream = c.whole_stays.ensures.stream;
  blocks = c.whole_stays.ensures.blocks;
  free = c.whole_stays.ensures.free;
}

short : goal.After-one_output → ShortLaws
short c = record {
  order = c.made_in_one_layer.ensures.order;
  few = c.made_in_one_layer.ensures.leaves;
  each = c.blocks_are_written.ensures.each;
  may = c.jobs_have_these_ends.ensures.asked;
  short = c.new_bytes_with_bypass.ensures;
  sound = c.coded_anew_is_sound.ensures;
  some = c.nothing_of_wrong_symbols.ensures.right;
  right = right_in;
}

pub returns-clause-limits : goal.returns-clause-limits
returns-clause-limits c rule m number found may aimed = no_limit (laws c) (law c) (made c) (whole c) rule m may number found aimed

pub returns-clause-choices : goal.returns-clause-choices
returns-clause-choices c rule m number place may aimed = no_choice (laws c) (law c) (made c) (whole c) rule m may number place aimed

pub returns-clause-blocks : goal.returns-clause-blocks
returns-clause-blocks c rule m number may = no_block (laws c) (law c) (made c) (whole c) rule m may number

pub returns-clause-short : goal.returns-clause-short
returns-clause-short c rule m place may aimed one = no_seven (laws c) (law c) (made c) (whole c) rule m may (short c) place aimed one
