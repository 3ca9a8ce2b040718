use Rattle.std.proofs.Common.{ℕ, arith}
use Rattle.std.proofs.lemmas.Result.{err_from_is_err_and}
use Rattle.jx_tile.proofs.CoveredLemmas.{uncovered_first, whole_next}
use Rattle.jx_tile.proofs.covered.check_covered.Goals as goal

pub returns-in_err-check_tile-clause-uncovered : goal.returns-in_err-check_tile-clause-uncovered
returns-in_err-check_tile-clause-uncovered c =
    let p = err_from_is_err_and c.from_residual.result c.from_residual.ensures.1 in
    rw (p.1, p.2) (uncovered_first c.args.stream.now c.loop-tile.tile c.in_err-check_tile.field-0.0 (omega arith) c.loop-tile.invariant c.in_err-check_tile.ensures.uncovered)

pub check_tile-requires-clause-main : goal.check_tile-requires-clause-main
check_tile-requires-clause-main c = c.requires.main

pub check_tile-requires-clause-tile : goal.check_tile-requires-clause-tile
check_tile-requires-clause-tile c = omega (arith, c.loop-tile-test.true, c.loop-tile.auto.tile-end, c.tile_count-tile-end.ensures)

pub loop-tile-init : goal.loop-tile-init
loop-tile-init c = c.requires.before

pub loop-tile-preserved : goal.loop-tile-preserved
loop-tile-preserved c = whole_next c.args.stream.now c.loop-tile.tile c.loop-tile.invariant c.in_ok-check_tile.ensures.whole

pub returns-clause-whole : goal.returns-clause-whole
returns-clause-whole c = λ (t : ℕ) lt. c.loop-tile.invariant t (omega (arith, lt, c.loop-tile-test.false, c.loop-tile.auto.tile-end, c.tile_count-tile-end.ensures))
