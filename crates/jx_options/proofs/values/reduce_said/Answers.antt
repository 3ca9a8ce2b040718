use Rattle.std.proofs.Common.{arith, sym}
use Rattle.jx_options.proofs.values.reduce_said.Goals as goal
use Rattle.jx_base.proofs.Texts.{number_read}

pub overflow_cast-result : goal.overflow_cast-result
overflow_cast-result c =
    let read = number_read _ _ _ (sym c.in-Some.ensures) in
    omega (arith, read.1)
