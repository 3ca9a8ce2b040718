use Rattle.std.proofs.Common.{◌<◌, ℕ, Some, slice_index_or}
use Rattle.jx_geom.specs.Geometry.{no_shape}
use Rattle.jx_plan.specs.Fits.{CompKeeps}
use Rattle.jx_plan.proofs.fitting.misfit_in.Given as goal

abbrev pub invariant-loop-comp : goal.invariant-loop-comp
invariant-loop-comp l = (c : ℕ) → c < l.comp → CompKeeps (Some l.items) (slice_index_or l.shapes c no_shape)
