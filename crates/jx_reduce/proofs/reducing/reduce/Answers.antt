use Rattle.jx_reduce.proofs.HeaderLemmas.{is_clear}
use Rattle.jx_reduce.proofs.MeaningLemmas.{meaning_as}
use Rattle.jx_reduce.proofs.PlanLemmas.{may_of, tiles_inside}
use Rattle.jx_reduce.proofs.reducing.reduce.Goals as goal

pub headers_left-requires-clause-hold : goal.headers_left-requires-clause-hold
headers_left-requires-clause-hold c = (is_clear c.args.d c.args.stream.now c.in_ok-check.ensures.ok).sizes

pub blocks_left-requires-clause-tiles : goal.blocks_left-requires-clause-tiles
blocks_left-requires-clause-tiles c = tiles_inside c.args.stream.now c.args.blocks.now c.requires.may

pub returns-clause-planned : goal.returns-clause-planned
returns-clause-planned c =
    may_of c.args.d c.args.stream.now c.in_ok-left.left c.args.blocks.now c.in_ok-blocks.blocks.items c.in_ok-left.ensures c.in_ok-blocks.ensures c.requires.may c.in_ok-check.ensures.ok

pub returns-clause-meaning : goal.returns-clause-meaning
returns-clause-meaning c =
    meaning_as c.args.d c.args.stream.now c.in_ok-left.left c.args.blocks.now c.in_ok-blocks.blocks.items c.in_ok-left.ensures c.in_ok-blocks.ensures
    (is_clear c.args.d c.args.stream.now c.in_ok-check.ensures.ok) c.requires.may.headers
