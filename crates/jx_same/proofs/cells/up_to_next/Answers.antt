use Rattle.std.proofs.Common.{arith}
use Rattle.std.proofs.lemmas.Nat.{mod_below}
use Rattle.jx_same.proofs.cells.up_to_next.Goals as goal

pub overflow_sub-result : goal.overflow_sub-result
overflow_sub-result c = omega (arith, mod_below c.args.number c.args.size c.requires)

pub returns : goal.returns
returns c = omega (arith, mod_below c.args.number c.args.size c.requires)
