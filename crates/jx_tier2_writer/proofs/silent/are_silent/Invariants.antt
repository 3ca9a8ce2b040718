use Rattle.std.proofs.Common.{◌≡◌, ◌<◌, ℕ, [], map}
use Rattle.std.specs.Prelude.{slice_get}
use Rattle.jx_geom.specs.Precincts.{leaf_number}
use Rattle.jx_tier2_reader.specs.Carries.{pieces_of}
use Rattle.jx_tier2_writer.proofs.silent.are_silent.Given as goal

abbrev pub invariant-loop-leaf : goal.invariant-loop-leaf
invariant-loop-leaf g l = (j : ℕ) → j < l.leaf → pieces_of (slice_get (map g.B.Coded.block l.values) (leaf_number l.geom l.comp l.res l.precinct j)) ≡ []
