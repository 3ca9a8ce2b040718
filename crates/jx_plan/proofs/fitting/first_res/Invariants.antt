use Rattle.std.proofs.Common.{◌<◌, ℕ, Some}
use Rattle.jx_plan.specs.Fits.{IsSameAt}
use Rattle.jx_plan.specs.Headers.{comp_written}
use Rattle.jx_plan.proofs.fitting.first_res.Given as goal

abbrev pub invariant-loop-res : goal.invariant-loop-res
invariant-loop-res l = (r : ℕ) → r < l.res → IsSameAt l.shape (comp_written (Some l.items) l.shape) r
