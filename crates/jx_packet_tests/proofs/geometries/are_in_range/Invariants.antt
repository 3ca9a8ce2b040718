use Rattle.std.proofs.Common.{◌<◌, ℕ, slice_index_or}
use Rattle.jx_geom.specs.Geometry.{no_shape}
use Rattle.jx_geom.specs.Ranges.{ShapeInRange}
use Rattle.jx_packet_tests.proofs.geometries.are_in_range.Given as goal

abbrev pub invariant-loop-comp : goal.invariant-loop-comp
invariant-loop-comp l = (c : ℕ) → c < l.comp-index → ShapeInRange (slice_index_or l.comps c no_shape)
