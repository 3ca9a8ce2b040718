use Rattle.std.proofs.Common.{rules, ◌<◌, ◌^◌}
use Rattle.jx_plan.proofs.PlanLemmas.{headers_in_range}
use Rattle.jx_plan.proofs.counting.plan_headers.Goals as goal

pub count_packets-requires : goal.count_packets-requires
count_packets-requires c =
    let few : c.args.layers < 2 ^ 16 = search rules in
    headers_in_range c.args.options.now c.args.layers c.args.stream.now c.in_ok-written.written c.requires.stand c.requires.range c.requires.wanted c.requires.fits c.requires.some few
    c.in_ok-written.ensures
