use Rattle.std.proofs.Common.{◌<◌, ℕ}
use Rattle.jx_geom.specs.Ranges.{exponent_across, exponent_down}
use Rattle.jx_packet_tests.proofs.ranges.has_precincts.Given as goal

abbrev pub invariant-loop-res : goal.invariant-loop-res
invariant-loop-res l = (r : ℕ) → 0 < r → r < l.res → (0 < exponent_across l.shape r) × (0 < exponent_down l.shape r)
