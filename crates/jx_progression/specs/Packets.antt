-- The packets of a tile, those that a progression entry covers, and the order of all.
use Rattle.std.specs.Prelude.{ℕ, zero, suc, ◌<◌, ◌≤◌, ◌≡◌, ◌⊎◌, ◌↔◌, List, [], length, take, drop, slice_index_or}
use Rattle.std.specs.List.{AllPairs, Contains}
use Rattle.jx_base.specs.Places.{size_of}
use Rattle.jx_geom.specs.Geometry.{Geometry, HasResolution, precincts_in}
use Rattle.jx_marker.specs.declared.Progression.{Progression}
use Rattle.jx_progression.specs.declared.names.PacketName.{PacketName}
use Rattle.jx_progression.specs.Orders.{ComesBefore, order_of}

-- B.9: a packet of a tile of so many layers
pub record IsPacketName (g : Geometry) (layers : ℕ) (p : PacketName) : Type 0 where
  pub layer : p.layer < layers
  pub resolution : HasResolution g p.comp p.res
  pub precinct : p.precinct < size_of (precincts_in g p.comp p.res)

-- A.6.6, Table A.32: an entry covers the layers, resolutions and components below its ends, from its first
-- resolution and component on; an end of 0 for the components is none
pub record Covers (e : Progression) (p : PacketName) : Type 0 where
  pub layer : p.layer < e.lye
  pub res_from : e.rs ≤ p.res
  pub res_below : p.res < e.re
  pub comp_from : e.cs ≤ p.comp
  pub comp_below : (e.ce ≡ 0) ⊎ (p.comp < e.ce)

-- B.12.2: what an entry sends after other packets: those that it covers, each once, in its order, without
-- those that were sent before
pub record Sends (g : Geometry) (layers : ℕ) (e : Progression) (before list : List PacketName) : Type 0 where
  pub exact : (p : PacketName) → Contains list p ↔ (IsPacketName g layers p × Covers e p × (Contains before p → ⊥))
  pub sorted : AllPairs (ComesBefore g (order_of e.order)) list

-- an entry that covers nothing
abbrev pub no_entry : Progression
no_entry = record { rs = 0; cs = 0; lye = 0; re = 0; ce = 0; order = 0 }

abbrev pub entry_at : List Progression → ℕ → Progression
entry_at entries i = slice_index_or entries i no_entry

-- B.12: the lists of the first n entries joined, each after those of the entries before it
abbrev pub IsOrder : Geometry → ℕ → List Progression → ℕ → List PacketName → Type 0
IsOrder g layers entries zero list = list ≡ []
IsOrder g layers entries (suc n) list =
    (k : ℕ) × IsOrder g layers entries n (take k list) × Sends g layers (entry_at entries n) (take k list) (drop k list)

-- some entry covers the packet
abbrev pub IsCovered : List Progression → PacketName → Type 0
IsCovered entries p = (i : ℕ) × (i < length entries) × Covers (entry_at entries i) p

-- each packet of the tile is covered
abbrev pub AreCovered : Geometry → ℕ → List Progression → Type 0
AreCovered g layers entries = (p : PacketName) → IsPacketName g layers p → IsCovered entries p

-- some packet of the tile is in no entry
abbrev pub HasUncovered : Geometry → ℕ → List Progression → Type 0
HasUncovered g layers entries = (p : PacketName) × IsPacketName g layers p × (IsCovered entries p → ⊥)

-- two packets of one precinct
pub record SamePrecinct (p q : PacketName) : Type 0 where
  pub comp : p.comp ≡ q.comp
  pub res : p.res ≡ q.res
  pub precinct : p.precinct ≡ q.precinct

-- the packets of each precinct stand in the order of their layers
abbrev pub LayersRise : List PacketName → Type 0
LayersRise list = AllPairs (λ (p q : PacketName). SamePrecinct p q → p.layer < q.layer) list
