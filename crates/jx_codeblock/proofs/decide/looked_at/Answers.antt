use Rattle.std.proofs.Common.{◌∙◌}
use Rattle.jx_codeblock.proofs.DecideLemmas.{slice_few, joined_long}
use Rattle.jx_codeblock.proofs.decide.looked_at.Goals as goal

pub goes_on-requires : goal.goes_on-requires
goes_on-requires c = slice_few c.args.block.now c.as_slice-pieces.result.now c.requires.sound c.as_slice-pieces.ensures

pub segments_in-requires-clause-long : goal.segments_in-requires-clause-long
segments_in-requires-clause-long c =
    joined_long c.args.block.now c.as_slice-pieces.result.now c.deref.result.now c.requires.sound c.as_slice-pieces.ensures (c.deref.ensures.value ∙ c.in_ok-whole.ensures)

pub segments_in-requires-clause-few : goal.segments_in-requires-clause-few
segments_in-requires-clause-few c = slice_few c.args.block.now c.as_slice-pieces.result.now c.requires.sound c.as_slice-pieces.ensures
