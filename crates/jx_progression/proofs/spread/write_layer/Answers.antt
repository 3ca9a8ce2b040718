use Rattle.std.proofs.Common.{◌+◌, arith, refl}
use Rattle.jx_progression.specs.Steps.{name_of, one_precinct}
use Rattle.jx_progression.proofs.SpreadLemmas.{written_next, written_none}
use Rattle.jx_progression.proofs.spread.write_layer.Goals as goal

pub loop-precinct-init : goal.loop-precinct-init
loop-precinct-init c = written_none c.args.list.now c.args.at (c.args.at + 0) 0 0 (one_precinct c.args.head) (omega arith) (omega arith)

pub loop-precinct-preserved : goal.loop-precinct-preserved
loop-precinct-preserved c =
    written_next c.args.list.now c.loop-precinct.list _ c.args.at (c.args.at + c.loop-precinct.precinct) (c.args.at + (c.loop-precinct.precinct + 1)) 0 c.loop-precinct.precinct
    (one_precinct c.args.head) (name_of c.args.head.layer c.args.head.res c.args.head.comp c.loop-precinct.precinct)
    (λ i. refl) (omega arith) (omega arith) (omega arith) (omega arith) refl c.loop-precinct.invariant refl
