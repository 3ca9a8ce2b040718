use Rattle.std.proofs.Common.{rules, ◌<◌, ◌^◌}
use Rattle.jx_plan.proofs.PlanLemmas.{headers_in_range, headers_pass, none_placed}
use Rattle.jx_plan.proofs.strays.check_changes.Goals as goal

pub returns-then-writes_none-clause-placed : goal.returns-then-writes_none-clause-placed
returns-then-writes_none-clause-placed c =
    let few : c.args.layers < 2 ^ 16 = search rules in
    none_placed c.args.options.now c.args.layers c.args.stream.now c.args.written.now c.requires.stand c.requires.range c.requires.wanted c.requires.fits c.requires.some few c.requires.written
    (c.writes_none.ensures c.if-writes_none.true)

pub first_stray-requires-clause-range : goal.first_stray-requires-clause-range
first_stray-requires-clause-range c =
    let few : c.args.layers < 2 ^ 16 = search rules in
    headers_in_range c.args.options.now c.args.layers c.args.stream.now c.args.written.now c.requires.stand c.requires.range c.requires.wanted c.requires.fits c.requires.some few c.requires.written

pub first_stray-requires-clause-totals : goal.first_stray-requires-clause-totals
first_stray-requires-clause-totals c =
    let few : c.args.layers < 2 ^ 16 = search rules in
    headers_pass c.args.options.now c.args.layers c.args.stream.now c.args.written.now c.requires.stand c.requires.range c.requires.wanted c.requires.fits c.requires.some few c.requires.written
    c.requires.totals c.requires.few
