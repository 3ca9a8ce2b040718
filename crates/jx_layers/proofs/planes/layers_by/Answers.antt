use Rattle.std.proofs.Common.{◌≤◌, arith}
use Rattle.jx_layers.proofs.planes.layers_by.Goals as goal

pub returns-clause-range : goal.returns-clause-range
returns-clause-range c =
    let most : c.ceil_div-layers.result ≤ c.args.all = c.ceil_div-layers.ensures.least.least c.args.all (grind arith) in
    omega (arith, most)

pub overflow_cast-result : goal.overflow_cast-result
overflow_cast-result c =
    let most : c.ceil_div-layers.result ≤ c.args.all = c.ceil_div-layers.ensures.least.least c.args.all (grind arith) in
    omega (arith, most)
