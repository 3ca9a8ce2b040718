-- The resolutions of a tile in groups, and what an entry sends of them, resolution by resolution.
use Rattle.std.specs.Prelude.{ℕ, ◌*◌, ◌<◌, ◌≤◌, ◌≡◌, ◌≢◌, ◌⊎◌, ◌↔◌, List, ◌++◌, length, take, drop, slice_index, slice_index_or}
use Rattle.std.specs.List.{All, AllPairs, Contains}
use Rattle.jx_geom.specs.declared.table.Resolution.{Resolution}
use Rattle.jx_geom.specs.Geometry.{Geometry}
use Rattle.jx_geom.specs.Resolutions.{resolutions_of}
use Rattle.jx_marker.specs.declared.Progression.{Progression}
use Rattle.jx_progression.specs.declared.bounds.Bounds.{Bounds}
use Rattle.jx_progression.specs.declared.names.PacketName.{PacketName}
use Rattle.jx_progression.specs.Steps.{IsCoveredTo, heads_at, row_end, row_of}

-- a resolution of which n layers were sent is within the bounds
pub record IsWithin (b : Bounds) (q : Resolution) (n : ℕ) : Type 0 where
  pub layers : 0 < q.precincts → b.layers ≤ n
  pub comp_low : b.comp_low ≤ q.comp
  pub comp_high : q.comp ≤ b.comp_high
  pub res_low : b.res_low ≤ q.res
  pub res_high : q.res ≤ b.res_high

-- the places of a group
abbrev pub group_at : List ℕ → ℕ → List ℕ
group_at places k = take 128 (drop (128 * k) places)

abbrev pub no_bounds : Bounds
no_bounds = record { layers = 0; comp_low = 0; comp_high = 0; res_low = 0; res_high = 0 }

-- each resolution of a group is within its bounds
abbrev pub AreBounds : Geometry → List ℕ → List Bounds → List ℕ → Type 0
AreBounds g places groups sent =
    (k : ℕ) → k < length groups → All (λ i. IsWithin (slice_index_or groups k no_bounds) (row_of g i) (slice_index sent i)) (group_at places k)

-- each resolution that has a precinct is in one of so many groups, of which each begins within the places
pub record AreGroups (g : Geometry) (places : List ℕ) (n : ℕ) : Type 0 where
  pub every : (i : ℕ) → i < length (resolutions_of g) → 0 < (row_of g i).precincts → (k : ℕ) × (k < n) × Contains (group_at places k) i
  pub begin : (k : ℕ) → k < n → 128 * k ≤ length places

-- nothing that the entry covers of the resolution is to be sent
abbrev pub IsSent : Geometry → ℕ → Progression → List ℕ → ℕ → Type 0
IsSent g layers e sent i = row_end layers e (row_of g i) ≤ slice_index sent i

-- Of some resolutions what the entry covers is sent now, of the others nothing more than before; the list has the first packets of those that
-- it sends.
pub record AreSome (g : Geometry) (layers : ℕ) (e : Progression) (sent now : List ℕ) (list : List PacketName) : Type 0 where
  pub each : (i : ℕ) → (slice_index now i ≡ slice_index sent i)
      ⊎ ((slice_index now i ≡ row_end layers e (row_of g i)) × (slice_index sent i < row_end layers e (row_of g i)))
  pub long : length now ≡ length sent
  pub heads : (x : PacketName) → Contains list x ↔ ((i : ℕ) × Contains (heads_at g layers e sent i) x × IsSent g layers e now i)
  pub once : AllPairs (λ x y. x ≢ y) list

abbrev pub SendsSome : Geometry → ℕ → Progression → (sent now : List ℕ) → (old new : List PacketName) → Type 0
SendsSome g layers e sent now old new = (list : List PacketName) × (new ≡ old ++ list) × AreSome g layers e sent now list

-- each resolution's number of layers is that of the entry that goes furthest
abbrev pub AreCoveredTo : Geometry → ℕ → List Progression → List ℕ → Type 0
AreCoveredTo g layers entries sent = (i : ℕ) → i < length (resolutions_of g) → IsCoveredTo layers entries (row_of g i) (slice_index sent i)
