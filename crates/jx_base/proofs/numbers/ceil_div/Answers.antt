use Rattle.std.proofs.Common.{subst, sym, ℕ}
use Rattle.jx_base.specs.Numbers.{ceil_of, IsCeiling}
use Rattle.jx_base.proofs.Ceilings.{ceil_of_is_ceiling}
use Rattle.jx_base.proofs.numbers.ceil_div.Goals as goal

pub returns-clause-least : goal.returns-clause-least
unfolding ceil_of
returns-clause-least c =
    let P : ℕ → Type 0 = λ n. IsCeiling c.args.a c.args.b n in
    subst P (sym c.div_ceil.ensures) (ceil_of_is_ceiling c.args.a c.args.b c.requires)
