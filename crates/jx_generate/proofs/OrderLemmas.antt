-- The packets of a made file stand in the order LRCP, each once.
use Rattle.std.proofs.Common.{◌≡◌, ℕ, ◌≤◌, ◌<◌, [], ◌∷◌, refl, sym, ap, subst, arith, inl, inr}
use Rattle.std.specs.List.{AllPairs, Contains}
use Rattle.jx_base.specs.Joined.{JoinedAt}
use Rattle.jx_base.proofs.Joined.{joined_from, joined_has, joined_pairs}
use Rattle.jx_base.proofs.Lists.{contains_cons, contains_head, contains_none}
use Rattle.jx_geom.specs.Geometry.{Geometry}
use Rattle.jx_progression.specs.declared.names.PacketName.{PacketName}
use Rattle.jx_progression.specs.Orders.{ComesBefore, order_of}
use Rattle.jx_progression.specs.Packets.{AreCovered, Covers, IsOrder, IsPacketName, Sends}
use Rattle.jx_progression.specs.Steps.{name_of}
use Rattle.jx_progression.proofs.OrderLemmas.{same_fields}
use Rattle.jx_generate.specs.Headers.{AreSizes, geometry_made}
use Rattle.jx_generate.specs.Packets.{layer_names, names_made, one_name, resolution_names}
use Rattle.jx_generate.specs.Reading.{entry_made}
use Rattle.jx_generate.proofs.GeometryLemmas.{level_5, precincts_made, resolution_there, three_shapes}

-- ---- what the list has
record HasFields (p : PacketName) : Type 0 where
  res : p.res < 6
  layer : p.layer < 12
  comp : p.comp < 3
  precinct : p.precinct ≡ 0

pub one_of : (x p : PacketName) → Contains (x ∷ []) p → x ≡ p
one_of x p has = elim (contains_cons x [] p has) [
  | inl e ↦ e
  | inr none ↦ absurd (contains_none p none)
]

pub from_resolution : (l r : ℕ) (p : PacketName) → Contains (resolution_names l r) p → (p.layer ≡ l) × (p.res ≡ r) × (p.comp < 3) × (p.precinct ≡ 0)
unfolding resolution_names
from_resolution l r p has =
    let at : JoinedAt (one_name l r) 0 3 p = joined_has (one_name l r) 0 3 p has in
    let e : name_of l r at.number 0 ≡ p = one_of (name_of l r at.number 0) p at.has in
    let below : at.number < 3 = at.below in (
      sym (ap (λ (x : PacketName). x.layer) e),
      sym (ap (λ (x : PacketName). x.res) e),
      subst (λ (x : PacketName). x.comp < 3) e below,
      sym (ap (λ (x : PacketName). x.precinct) e),
    )

pub from_layer : (l : ℕ) (p : PacketName) → Contains (layer_names l) p → (p.layer ≡ l) × (p.res < 6) × (p.comp < 3) × (p.precinct ≡ 0)
unfolding layer_names
from_layer l p has =
    let at : JoinedAt (resolution_names l) 0 6 p = joined_has (resolution_names l) 0 6 p has in
    let own = from_resolution l at.number p at.has in
    let below : at.number < 6 = at.below in
    (own.0, omega (arith, own.1), own.2, own.3)

from_names : (p : PacketName) → Contains names_made p → HasFields p
unfolding names_made
from_names p has =
    let at : JoinedAt layer_names 0 12 p = joined_has layer_names 0 12 p has in
    let own = from_layer at.number p at.has in
    let below : at.number < 12 = at.below in
    record { layer = omega (arith, own.0); res = own.1; comp = own.2; precinct = own.3 }

to_names : (l r c : ℕ) → l < 12 → r < 6 → c < 3 → Contains names_made (name_of l r c 0)
unfolding names_made layer_names resolution_names
to_names l r c hl hr hc =
    let p : PacketName = name_of l r c 0 in
    let one : Contains (resolution_names l r) p = joined_from (one_name l r) 0 3 p (record { number = c; from = omega arith; below = hc; has = contains_head p [] }) in
    let two : Contains (layer_names l) p = joined_from (resolution_names l) 0 6 p (record { number = r; from = omega arith; below = hr; has = one }) in
    joined_from layer_names 0 12 p (record { number = l; from = omega arith; below = hl; has = two })

-- ---- its order
pub single : {X : Type 0} (R : X → X → Type 0) (x : X) → AllPairs R (x ∷ [])
single R x i j d lt below = absurd (omega arith)

abbrev Before : Geometry → PacketName → PacketName → Type 0
Before g p q = ComesBefore g (order_of 0) p q

resolution_sorted : (g : Geometry) (l r : ℕ) → AllPairs (Before g) (resolution_names l r)
unfolding resolution_names
resolution_sorted g l r =
    joined_pairs (Before g) (one_name l r) 0 3 (λ c. single (Before g) (name_of l r c 0))
    (λ c d x y lt hx hy.
    (let P : PacketName → PacketName → Type 0 = λ a b. Before g a b in
    subst (λ (a : PacketName). P a y) (one_of (name_of l r c 0) x hx) (subst (λ (b : PacketName). P (name_of l r c 0) b) (one_of (name_of l r d 0) y hy) (inr (refl, inr (refl, inl lt))))))

layer_sorted : (g : Geometry) (l : ℕ) → AllPairs (Before g) (layer_names l)
unfolding layer_names
layer_sorted g l =
    joined_pairs (Before g) (resolution_names l) 0 6 (λ r. resolution_sorted g l r)
    (λ r q x y lt hx hy. (let a = from_resolution l r x hx in let b = from_resolution l q y hy in inr (omega (arith, a.0, b.0), inl (omega (arith, a.1, b.1)))))

names_sorted : (g : Geometry) → AllPairs (Before g) names_made
unfolding names_made
names_sorted g =
    joined_pairs (Before g) layer_names 0 12 (λ l. layer_sorted g l)
    (λ l m x y lt hx hy. (let a = from_layer l x hx in let b = from_layer m y hy in inl (omega (arith, a.0, b.0))))

-- ---- the packets of the tile
packet_from : (w h : ℕ) (p : PacketName) → AreSizes w h → HasFields p → IsPacketName (geometry_made w h) 12 p
packet_from w h p sizes f = record {
  layer = f.layer;
  resolution = resolution_there w h p.comp p.res f.comp (omega (arith, f.res));
  precinct = omega (arith, f.precinct, precincts_made w h p.comp p.res sizes f.comp (omega (arith, f.res)));
}

pub packet_fields : (w h : ℕ) (p : PacketName) → AreSizes w h → IsPacketName (geometry_made w h) 12 p → (p.res < 6) × (p.layer < 12) × (p.comp < 3) × (p.precinct ≡ 0)
packet_fields w h p sizes is =
    let comp : p.comp < 3 = three_shapes w h p.comp is.resolution.component in
    let level : p.res ≤ 5 = level_5 w h p.comp p.res comp is.resolution.level in
    (omega arith, is.layer, comp, omega (arith, is.precinct, precincts_made w h p.comp p.res sizes comp level))

covers_all : (p : PacketName) → p.layer < 12 → p.res < 6 → Covers entry_made p
covers_all p layer res = record { layer = layer; res_from = omega arith; res_below = omega arith; comp_from = omega arith; comp_below = inl refl }

names_exact : (w h : ℕ) (p : PacketName) → AreSizes w h → IsPacketName (geometry_made w h) 12 p → Contains names_made p
names_exact w h p sizes is =
    let f = packet_fields w h p sizes is in
    let e : name_of p.layer p.res p.comp 0 ≡ p = same_fields (name_of p.layer p.res p.comp 0) p refl refl refl (sym f.3) in
    subst (λ (x : PacketName). Contains names_made x) e (to_names p.layer p.res p.comp f.1 f.0 f.2)

sends_all : (w h : ℕ) → AreSizes w h → Sends (geometry_made w h) 12 entry_made [] names_made
sends_all w h sizes = record {
  exact = λ p. (
    λ has. (let f = from_names p has in (packet_from w h p sizes f, covers_all p f.layer f.res, λ none. contains_none p none)),
    λ is. names_exact w h p sizes is.0,
  );
  sorted = names_sorted (geometry_made w h);
}

pub order_made : (w h : ℕ) → AreSizes w h → IsOrder (geometry_made w h) 12 (entry_made ∷ []) 1 names_made
order_made w h sizes = (0, refl, sends_all w h sizes)

pub cover_made : (w h : ℕ) → AreSizes w h → AreCovered (geometry_made w h) 12 (entry_made ∷ [])
cover_made w h sizes p is = let f = packet_fields w h p sizes is in (0, omega arith, covers_all p f.1 f.0)
