-- The numbers of a precinct's code-blocks, by a first number and a step from row to row in each band.
use Rattle.std.specs.Prelude.{ℕ, ◌+◌, ◌-◌, ◌*◌, ◌/◌, ◌%◌, ◌<◌, ◌≡◌, max, nat_lt, if◌then◌else◌}
use Rattle.jx_geom.specs.declared.leaves.Leaves.{Leaves}
use Rattle.jx_geom.specs.declared.leaves.BandLeaves.{BandLeaves}
use Rattle.jx_geom.specs.Geometry.{Geometry}
use Rattle.jx_geom.specs.Precincts.{leaves, leaf_number}

abbrev pub band_leaf_at : BandLeaves → ℕ → ℕ
band_leaf_at p j = p.first + j / max p.wide 1 * p.stride + j % max p.wide 1

-- how many leaves there are, and the number of each
abbrev pub count_of : Leaves → ℕ
count_of l = l.low.count + l.middle.count + l.high.count

abbrev pub leaf_at : Leaves → ℕ → ℕ
leaf_at l j =
    if nat_lt j l.low.count then band_leaf_at l.low j
    else if nat_lt (j - l.low.count) l.middle.count then band_leaf_at l.middle (j - l.low.count)
    else band_leaf_at l.high (j - l.low.count - l.middle.count)

-- those of a precinct
pub record AreLeaves (g : Geometry) (c r k : ℕ) (l : Leaves) : Type 0 where
  pub count : count_of l ≡ leaves g c r k
  pub each : (j : ℕ) → j < leaves g c r k → leaf_at l j ≡ leaf_number g c r k j
