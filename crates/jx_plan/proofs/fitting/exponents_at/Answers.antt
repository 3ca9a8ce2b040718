use Rattle.std.proofs.Common.{rules, ◌≡◌, ◌<◌, ◌∙◌, length}
use Rattle.jx_plan.specs.Headers.{item_at}
use Rattle.jx_plan.proofs.FitLemmas.{exponent_none, exponent_some}
use Rattle.jx_plan.proofs.fitting.exponents_at.Goals as goal

pub returns-then-is_empty : goal.returns-then-is_empty
returns-then-is_empty c =
    let none : length c.args.items.now ≡ 0 = search rules in
    exponent_none c.args.items.now c.args.res none

pub returns : goal.returns
returns c =
    let some : 0 < length c.args.items.now = search rules in
    let is : c.item_at.result ≡ item_at c.args.items.now c.args.res = search rules in
    λ levels le few. is ∙ exponent_some c.args.items.now c.args.res some levels le few
