use Rattle.std.proofs.Common.{◌≤◌, ℕ, Bool, subst}
use Rattle.jx_same.specs.Runs.{unit_count}
use Rattle.jx_same.proofs.BlockLemmas.{aligned_has, none_on_shelf}
use Rattle.jx_same.proofs.runs.compare_run.Goals as goal

pub compare_rows-requires-clause-high : goal.compare_rows-requires-clause-high
compare_rows-requires-clause-high c = subst (λ (b : Bool). c.args.high ≤ unit_count b c.args.walk) c.if-walk.true c.requires.high

pub returns-then-walk : goal.returns-then-walk
returns-then-walk c = rw c.if-walk.true c.compare_rows.ensures

pub in_cells-requires-clause-own : goal.in_cells-requires-clause-own
in_cells-requires-clause-own c = aligned_has c.args.a.now c.args.b.now c.args.name c.requires.aligned c.requires.band

pub compare_between-requires-clause-high : goal.compare_between-requires-clause-high
compare_between-requires-clause-high c =
    subst (λ (k : ℕ). c.args.high ≤ k) c.requires.walk.all (subst (λ (b : Bool). c.args.high ≤ unit_count b c.args.walk) c.if-walk.false c.requires.high)

pub compare_between-requires-clause-shelf : goal.compare_between-requires-clause-shelf
compare_between-requires-clause-shelf c = none_on_shelf c.args.b.now c.args.name c.new-shelf.result c.new-shelf.ensures

pub returns : goal.returns
returns c = rw c.if-walk.false c.compare_between.ensures.first
