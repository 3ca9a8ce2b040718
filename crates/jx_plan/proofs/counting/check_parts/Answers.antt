use Rattle.std.proofs.Common.{rules, ◌<◌, ◌^◌}
use Rattle.jx_plan.specs.Steps.{AreAllParts}
use Rattle.jx_plan.proofs.PlanLemmas.{few_made, headers_in_range, headers_pass, headers_whole}
use Rattle.jx_plan.proofs.counting.check_parts.Goals as goal

pub all_parts-requires-clause-range : goal.all_parts-requires-clause-range
all_parts-requires-clause-range c =
    let few : c.args.layers < 2 ^ 16 = search rules in
    headers_in_range c.args.options.now c.args.layers c.args.stream.now c.args.written.now c.requires.stand c.requires.range c.requires.wanted c.requires.fits c.requires.some few c.requires.written

pub all_parts-requires-clause-totals : goal.all_parts-requires-clause-totals
all_parts-requires-clause-totals c =
    let few : c.args.layers < 2 ^ 16 = search rules in
    headers_pass c.args.options.now c.args.layers c.args.stream.now c.args.written.now c.requires.stand c.requires.range c.requires.wanted c.requires.fits c.requires.some few c.requires.written
    c.requires.totals c.requires.few

pub all_parts-requires-clause-whole : goal.all_parts-requires-clause-whole
all_parts-requires-clause-whole c =
    let few : c.args.layers < 2 ^ 16 = search rules in
    headers_whole c.args.options.now c.args.layers c.args.stream.now c.args.written.now c.requires.stand c.requires.range c.requires.wanted c.requires.fits c.requires.some few c.requires.written
    c.requires.placed

pub returns-in-Ok-clause-few : goal.returns-in-Ok-clause-few
returns-in-Ok-clause-few c =
    let are : AreAllParts c.args.options.now.marks.parts c.args.written.now c.in-Ok.all = search rules in
    few_made c.args.options.now c.args.layers c.args.stream.now c.args.written.now c.requires.written are.few
