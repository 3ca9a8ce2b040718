-- Rule 25 over the tiles of a stream, and the packets of one tile by the values that their list is made from.
use Rattle.std.proofs.Common.{◌≡◌, ◌≢◌, ◌↔◌, ◌∙◌, ◌<◌, ◌≤◌, ◌+◌, ◌*◌, ◌^◌, inl, inr, ℕ, List, length, ap, arith, subst, sym}
use Rattle.std.specs.List.{AllPairs, Contains}
use Rattle.std.proofs.lemmas.Bool.{cases_eq}
use Rattle.jx_geom.specs.Counts.{tile_precincts}
use Rattle.jx_geom.specs.Geometry.{Geometry, rect_of_tile}
use Rattle.jx_marker.specs.declared.Progression.{Progression}
use Rattle.jx_progression.specs.declared.names.PacketName.{PacketName}
use Rattle.jx_progression.specs.Packets.{AreCovered, HasUncovered, IsOrder, IsPacketName}
use Rattle.jx_marker.specs.RuleNumbers.{UNCOVERED}
use Rattle.jx_codestream.specs.declared.Tile.{Tile}
use Rattle.jx_codestream.specs.declared.Stream.{Stream}
use Rattle.jx_codestream.specs.First.{tile_number}
use Rattle.jx_codestream.specs.declared.faults.StreamFault.{StreamFault}
use Rattle.jx_codestream.specs.declared.faults.StreamFault.TheVariants as fault
use Rattle.jx_codestream.specs.Shapes.{geometry, layers_of, tile_at}
use Rattle.jx_tile.specs.Covered.{IsListOf, IsWhole, IsUncovered, LacksPacket}
use Rattle.jx_tile.specs.Faults.{HasCause}
use Rattle.jx_tile.specs.Totals.{tile_packets}
use Rattle.jx_tile.proofs.FewPackets.{few_names}

-- in the lowest tile of which some packet isn't covered
pub uncovered_first : (s : Stream) (t : ℕ) (f : StreamFault) → t < tile_number s.siz → ((k : ℕ) → k < t → IsWhole s k) → HasCause (LacksPacket s t) f → HasCause (IsUncovered s) f
uncovered_first s t (fault.Rule number place) inside before h = record { tile = t; inside = inside; some = h.some; lowest = before; fault_is = h.fault_is }
uncovered_first s t (fault.Limit number found) inside before h = record { tile = t; inside = inside; some = h.some; lowest = before; fault_is = h.fault_is }
uncovered_first s t fault.NoMemory inside before h = tt

pub whole_next : (s : Stream) (n : ℕ) → ((t : ℕ) → t < n → IsWhole s t) → IsWhole s n → (t : ℕ) → t < n + 1 → IsWhole s t
whole_next s n before own t lt = elim (cases_eq t n) [
  | inl e ↦ subst (λ (i : ℕ). IsWhole s i) (sym e) own
  | inr e ↦ before t (omega (arith, lt, e))
]

-- by the values that a tile's list is made from
pub order_of : (s : Stream) (t : ℕ) (g : Geometry) (layers : ℕ) (entries : List Progression) (tile : Tile) (list : List PacketName) → g ≡ geometry s t → layers ≡ layers_of s t
    → tile ≡ tile_at s t → entries ≡ tile.progressions → IsOrder g layers entries (length entries) list → IsListOf s t list
order_of s t g layers entries tile list is many at sent h =
    let own : List Progression = (tile_at s t).progressions in
    let P : Geometry → Type 0 = λ x. IsOrder x (layers_of s t) own (length own) list in
    let Q : ℕ → Type 0 = λ n. IsOrder g n own (length own) list in
    let R : List Progression → Type 0 = λ x. IsOrder g layers x (length x) list in
    subst P is (subst Q many (subst R (sent ∙ ap (λ (x : Tile). x.progressions) at) h))

pub lacks_of : (s : Stream) (t : ℕ) (g : Geometry) (layers : ℕ) (entries : List Progression) (tile : Tile) → g ≡ geometry s t → layers ≡ layers_of s t → tile ≡ tile_at s t
    → entries ≡ tile.progressions → HasUncovered g layers entries → LacksPacket s t (fault.Rule UNCOVERED tile.place)
lacks_of s t g layers entries tile is many at sent h =
    let P : Geometry → Type 0 = λ x. HasUncovered x (layers_of s t) (tile_at s t).progressions in
    let Q : ℕ → Type 0 = λ n. HasUncovered g n (tile_at s t).progressions in
    let R : List Progression → Type 0 = λ x. HasUncovered g layers x in
    record {
      some = subst P is (subst Q many (subst R (sent ∙ ap (λ (x : Tile). x.progressions) at) h));
      fault_is = ap (λ (x : Tile). fault.Rule UNCOVERED x.place) at;
    }

pub whole_of : (s : Stream) (t : ℕ) (g : Geometry) (layers : ℕ) (entries : List Progression) (tile : Tile) → g ≡ geometry s t → layers ≡ layers_of s t → tile ≡ tile_at s t
    → entries ≡ tile.progressions → AreCovered g layers entries → IsWhole s t
whole_of s t g layers entries tile is many at sent h =
    let P : Geometry → Type 0 = λ x. AreCovered x (layers_of s t) (tile_at s t).progressions in
    let Q : ℕ → Type 0 = λ n. AreCovered g n (tile_at s t).progressions in
    let R : List Progression → Type 0 = λ x. AreCovered g layers x in
    subst P is (subst Q many (subst R (sent ∙ ap (λ (x : Tile). x.progressions) at) h))

pub every_of : (s : Stream) (t : ℕ) (g : Geometry) (layers : ℕ) (list : List PacketName) → g ≡ geometry s t → layers ≡ layers_of s t
    → ((p : PacketName) → Contains list p ↔ IsPacketName g layers p) → (p : PacketName) → Contains list p ↔ IsPacketName (geometry s t) (layers_of s t) p
every_of s t g layers list is many h =
    let P : Geometry → Type 0 = λ x. (p : PacketName) → Contains list p ↔ IsPacketName x (layers_of s t) p in
    let Q : ℕ → Type 0 = λ n. (p : PacketName) → Contains list p ↔ IsPacketName g n p in
    subst P is (subst Q many h)

pub few_of : (s : Stream) (t : ℕ) (list : List PacketName) → tile_packets s t ≤ 2 ^ 22 → ((p : PacketName) → Contains list p ↔ IsPacketName (geometry s t) (layers_of s t) p)
    → AllPairs (λ p q. p ≢ q) list → length list ≤ 2 ^ 22
few_of s t list few every once =
    let g : Geometry = geometry s t in
    let le : length list ≤ tile_precincts (rect_of_tile g) g.shapes * layers_of s t = few_names g (layers_of s t) list every once in
    omega (arith, le, few)
