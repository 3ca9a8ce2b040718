-- Words of the inner functions: how far an entry goes in a resolution, the layers that were sent, groups of packets that stand together.
use Rattle.std.specs.Prelude.{ℕ, ◌+◌, ◌-◌, ◌<◌, ◌≤◌, ◌≡◌, ◌⊎◌, ◌==◌, ◌↔◌, min, max, nat_le, nat_lt, Bool, true, false, List, [], ◌∷◌, length, slice_index, slice_index_or, if◌then◌else◌}
use Rattle.std.specs.List.{AllPairs, Contains}
use Rattle.jx_geom.specs.declared.table.Resolution.{Resolution}
use Rattle.jx_geom.specs.Geometry.{Geometry, precincts_in, rect_of_tile, shape_of}
use Rattle.jx_geom.specs.Resolutions.{place_of, resolutions_of}
use Rattle.jx_marker.specs.declared.Progression.{Progression}
use Rattle.jx_progression.specs.declared.names.PacketName.{PacketName}
use Rattle.jx_progression.specs.declared.keys.Order.{Order}
use Rattle.jx_progression.specs.declared.keys.Order.TheVariants.{Lrcp, Rlcp, Rpcl, Pcrl, Cprl}
use Rattle.jx_progression.specs.declared.keys.Key.{Key}
use Rattle.jx_progression.specs.Orders.{ComesBefore, IsLess, across_of, down_of, order_of}
use Rattle.jx_progression.specs.Packets.{Covers, IsPacketName, entry_at}
use Rattle.jx_base.specs.Joined.{joined}
use Rattle.jx_base.specs.Places.{size_of}

abbrev pub name_of : ℕ → ℕ → ℕ → ℕ → PacketName
name_of l r c k = record { layer = l; res = r; comp = c; precinct = k }

-- the resolutions of a tile by their place in the list of all
abbrev pub no_resolution : Resolution
no_resolution = record { comp = 0; res = 0; precincts = 0; precincts_before = 0; blocks_before = 0 }

abbrev pub row_at : List Resolution → ℕ → Resolution
row_at rows i = slice_index_or rows i no_resolution

abbrev pub row_of : Geometry → ℕ → Resolution
row_of g i = row_at (resolutions_of g) i

-- the layers of a resolution that an entry covers are those below this
unfoldable pub row_end : ℕ → Progression → Resolution → ℕ
row_end layers e q =
    (if q.precincts == 0 then 0
    else (if nat_lt q.comp e.cs then 0
    else (if nat_lt q.res e.rs then 0
    else (if nat_lt q.res e.re then (if e.ce == 0 then min e.lye layers else (if nat_lt q.comp e.ce then min e.lye layers else 0))
    else 0))))

-- how many layers of a resolution were sent
abbrev pub sent_at : Geometry → List ℕ → ℕ → ℕ → ℕ
sent_at g sent c r = slice_index sent (place_of (rect_of_tile g) g.shapes c + r)

-- whether the packets of a layer of a resolution stand together in an order; else those of a precinct do
abbrev pub by_layer : Order → Bool
by_layer Lrcp = true
by_layer Rlcp = true
by_layer Rpcl = false
by_layer Pcrl = false
by_layer Cprl = false

-- the first packet of each group that stands together in a resolution, with the layers from one to an end to send
abbrev pub one_layer_head : Resolution → ℕ → List PacketName
one_layer_head q n = name_of n q.res q.comp 0 ∷ []

abbrev pub one_precinct_head : Resolution → ℕ → ℕ → List PacketName
one_precinct_head q from k = name_of from q.res q.comp k ∷ []

unfoldable pub row_heads : Order → Resolution → ℕ → ℕ → List PacketName
row_heads o q from to =
    (if by_layer o then joined (one_layer_head q) from to else (if nat_lt from to then joined (one_precinct_head q from) 0 q.precincts else []))

abbrev pub heads_at : Geometry → ℕ → Progression → List ℕ → ℕ → List PacketName
heads_at g layers e sent i = row_heads (order_of e.order) (row_of g i) (slice_index sent i) (row_end layers e (row_of g i))

unfoldable pub all_heads : Geometry → ℕ → Progression → List ℕ → List PacketName
all_heads g layers e sent = joined (heads_at g layers e sent) 0 (length (resolutions_of g))

-- how many precincts a resolution has, none where it isn't there
unfoldable pub count_of : Geometry → ℕ → ℕ → ℕ
count_of g c r = (if nat_lt c (length g.shapes) then (if nat_le r (shape_of g c).levels then size_of (precincts_in g c r) else 0) else 0)

-- the packets that stand together with the first of them, up to an end of the layers
abbrev pub one_precinct : PacketName → ℕ → List PacketName
one_precinct x k = name_of x.layer x.res x.comp k ∷ []

abbrev pub one_layer : PacketName → ℕ → List PacketName
one_layer x l = name_of l x.res x.comp x.precinct ∷ []

unfoldable pub group_names : Geometry → Order → ℕ → PacketName → List PacketName
group_names g o end x = (if by_layer o then joined (one_precinct x) 0 (count_of g x.comp x.res) else joined (one_layer x) x.layer end)

unfoldable pub group_size : Geometry → Order → ℕ → PacketName → ℕ
group_size g o end x = (if by_layer o then count_of g x.comp x.res else end - x.layer)

-- what they are sorted by
unfoldable pub across_or : Geometry → PacketName → ℕ
across_or g p = if nat_lt p.precinct (count_of g p.comp p.res) then across_of g p else 0

unfoldable pub down_or : Geometry → PacketName → ℕ
down_or g p = if nat_lt p.precinct (count_of g p.comp p.res) then down_of g p else 0

unfoldable pub sort_key : Geometry → Order → PacketName → Key
sort_key g Lrcp p = record { first = p.layer; second = p.res; third = p.comp; fourth = 0 }
sort_key g Rlcp p = record { first = p.res; second = p.layer; third = p.comp; fourth = 0 }
sort_key g Rpcl p = record { first = p.res; second = down_or g p; third = across_or g p; fourth = p.comp }
sort_key g Pcrl p = record { first = down_or g p; second = across_or g p; third = p.comp; fourth = p.res }
sort_key g Cprl p = record { first = p.comp; second = down_or g p; third = across_or g p; fourth = p.res }

abbrev pub numbers_of : Key → List ℕ
numbers_of k = k.first ∷ k.second ∷ k.third ∷ k.fourth ∷ []

abbrev pub NotAfter : Geometry → Order → PacketName → PacketName → Type 0
NotAfter g o p q =
    IsLess (numbers_of (sort_key g o p)) (numbers_of (sort_key g o q)) ⊎ (numbers_of (sort_key g o p) ≡ numbers_of (sort_key g o q))

abbrev pub AreSorted : Geometry → Order → List PacketName → Type 0
AreSorted g o xs = (k : ℕ) (d : PacketName) → k + 1 < length xs → NotAfter g o (slice_index_or xs k d) (slice_index_or xs (k + 1) d)

-- the table has a place for each resolution of the list
abbrev pub HasPlaces : Geometry → List ℕ → Type 0
HasPlaces g sent = length sent ≡ length (resolutions_of g)

-- the packets in the list are those of the layers below what the table says
abbrev pub IsTable : Geometry → ℕ → List PacketName → List ℕ → Type 0
IsTable g layers list sent = (p : PacketName) → IsPacketName g layers p → (p.layer < sent_at g sent p.comp p.res) ↔ Contains list p

-- what an entry lists: its packets of the layers from there on
pub record Lists (g : Geometry) (layers : ℕ) (e : Progression) (sent : List ℕ) (list : List PacketName) : Type 0 where
  pub exact : (p : PacketName) → Contains list p ↔ (IsPacketName g layers p × Covers e p × (sent_at g sent p.comp p.res ≤ p.layer))
  pub sorted : AllPairs (ComesBefore g (order_of e.order)) list

-- the table after an entry
abbrev pub IsMarked : Geometry → ℕ → Progression → List ℕ → List ℕ → Type 0
IsMarked g layers e before after = (i : ℕ) → i < length (resolutions_of g) → slice_index after i ≡ max (slice_index before i) (row_end layers e (row_of g i))

-- how many layers of a resolution the entries cover: the least number that is no less than each one's
pub record IsCoveredTo (layers : ℕ) (entries : List Progression) (q : Resolution) (n : ℕ) : Type 0 where
  pub each : (i : ℕ) → i < length entries → row_end layers (entry_at entries i) q ≤ n
  pub least : (m : ℕ) → ((i : ℕ) → i < length entries → row_end layers (entry_at entries i) q ≤ m) → n ≤ m

-- each layer of a resolution that has a precinct
abbrev pub AllCovered : ℕ → List Progression → Resolution → Type 0
AllCovered layers entries q = (n : ℕ) → IsCoveredTo layers entries q n → 0 < q.precincts → layers ≤ n
