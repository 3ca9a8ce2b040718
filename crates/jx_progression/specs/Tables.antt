-- The table of the layers that were sent, and what an entry sends in all.
use Rattle.std.specs.Prelude.{ℕ, ◌≡◌, ◌≢◌, ◌↔◌, List, ◌++◌, length}
use Rattle.std.specs.List.{AllPairs, Contains}
use Rattle.jx_geom.specs.Geometry.{Geometry}
use Rattle.jx_marker.specs.declared.Progression.{Progression}
use Rattle.jx_progression.specs.declared.names.PacketName.{PacketName}
use Rattle.jx_progression.specs.declared.table.Table.{Table}
use Rattle.jx_progression.specs.Groups.{AreBounds, AreGroups}
use Rattle.jx_progression.specs.Steps.{HasPlaces, IsMarked, all_heads}

-- each resolution that has a precinct is in a group, and each of a group within the bounds of its group
pub record IsReady (g : Geometry) (t : Table) : Type 0 where
  pub places : HasPlaces g t.sent.items
  pub groups : AreGroups g t.places.items (length t.groups.items)
  pub bounds : AreBounds g t.places.items t.groups.items t.sent.items

-- the first packets that an entry sends, each once
pub record AreHeads (g : Geometry) (layers : ℕ) (e : Progression) (sent : List ℕ) (list : List PacketName) : Type 0 where
  pub heads : (x : PacketName) → Contains list x ↔ Contains (all_heads g layers e sent) x
  pub once : AllPairs (λ x y. x ≢ y) list

-- they are appended, and all is marked
pub record IsAll (g : Geometry) (layers : ℕ) (e : Progression) (sent now : List ℕ) (list : List PacketName) : Type 0 where
  pub marked : IsMarked g layers e sent now
  pub heads : AreHeads g layers e sent list

abbrev pub SendsAll : Geometry → ℕ → Progression → (sent now : List ℕ) → (old new : List PacketName) → Type 0
SendsAll g layers e sent now old new = (list : List PacketName) × (new ≡ old ++ list) × IsAll g layers e sent now list
