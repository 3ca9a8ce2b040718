-- The packets of a precinct stand in the order of their layers.
use Rattle.std.proofs.Common.{◌≡◌, ℕ, zero, suc, ◌<◌, ◌≤◌, List, [], inl, inr, subst, arith, length, take, drop, get_or}
use Rattle.std.proofs.lemmas.Bool.{cases_lt}
use Rattle.std.proofs.lemmas.List.{take-append-drop}
use Rattle.std.specs.List.{AllPairs, Contains}
use Rattle.jx_geom.specs.Geometry.{Geometry}
use Rattle.jx_marker.specs.declared.Progression.{Progression}
use Rattle.jx_progression.specs.declared.names.PacketName.{PacketName}
use Rattle.jx_progression.specs.declared.keys.Order.{Order}
use Rattle.jx_progression.specs.Orders.{ComesBefore, order_of}
use Rattle.jx_progression.specs.Packets.{IsPacketName, Covers, IsOrder, SamePrecinct, LayersRise, entry_at}
use Rattle.jx_progression.proofs.OrderCases.{Placed, rises}
use Rattle.jx_progression.proofs.OrderLemmas.{order_to, order_from}
use Rattle.jx_base.proofs.Lists.{pairs_append}

same_place : (g : Geometry) (p q : PacketName) → SamePrecinct p q → Placed g p q
same_place g p q same =
    let ec : p.comp ≡ q.comp = same.comp in
    let er : p.res ≡ q.res = same.res in
    let ek : p.precinct ≡ q.precinct = same.precinct in
    record { across = cc; down = cc }

rise_in : (g : Geometry) (o : Order) (list : List PacketName) → AllPairs (ComesBefore g o) list → LayersRise list
rise_in g o list h i j d lt below same =
    rises g o (get_or list i d) (get_or list j d) (same_place g (get_or list i d) (get_or list j d) same) same (h i j d lt below)

-- an entry that sends a packet covers those of its precinct in lower layers
covers_lower : (e : Progression) (p q : PacketName) → SamePrecinct p q → q.layer ≤ p.layer → Covers e p → Covers e q
covers_lower e p q same le h =
    let ec : p.comp ≡ q.comp = same.comp in
    let er : p.res ≡ q.res = same.res in
    record {
      layer = omega (arith, h.layer);
      res_from = omega (arith, h.res_from);
      res_below = omega (arith, h.res_below);
      comp_from = omega (arith, h.comp_from);
      comp_below = elim h.comp_below [ inl none ↦ inl none | inr lt ↦ inr (omega arith) ];
    }

-- across entries
rise_between : (g : Geometry) (layers : ℕ) (entries : List Progression) (n : ℕ) (front : List PacketName) (p q : PacketName)
    → IsOrder g layers entries n front → Contains front p → IsPacketName g layers q → (Contains front q → ⊥) → SamePrecinct p q → p.layer < q.layer
rise_between g layers entries n front p q h c is none same = elim (cases_lt p.layer q.layer) [
  | inl lt ↦ lt
  | inr le ↦
      let sent = order_to g layers entries n front h p c in
      absurd (none (order_from g layers entries n front h q
      (record { packet = is; entry = sent.entry; below = sent.below; covers = covers_lower (entry_at entries sent.entry) p q same le sent.covers })))
]

pub order_rises : (g : Geometry) (layers : ℕ) (entries : List Progression) (n : ℕ) (list : List PacketName)
    → IsOrder g layers entries n list → LayersRise list
order_rises g layers entries zero list h = λ i j d lt below.
    let P : List PacketName → Type 0 = λ xs. j < length xs in
    let empty : List PacketName = [] in
    let none : j < length empty = subst P h below in
    absurd (omega (arith, none))
order_rises g layers entries (suc n) list h =
    let P : List PacketName → Type 0 = λ xs. LayersRise xs in
    let across : (p q : PacketName) → Contains (take h.0 list) p → Contains (drop h.0 list) q → SamePrecinct p q → p.layer < q.layer = λ p q hp hq same.
    (let sent = (h.2.exact q).0 hq in
    rise_between g layers entries n (take h.0 list) p q h.1 hp sent.0 sent.2 same) in
    subst P (take-append-drop h.0 list) (pairs_append (λ (p q : PacketName). SamePrecinct p q → p.layer < q.layer) (take h.0 list) (drop h.0 list)
    (order_rises g layers entries n (take h.0 list) h.1)
    (rise_in g (order_of (entry_at entries n).order) (drop h.0 list) h.2.sorted) across)
