-- The packets that the loops of an entry run through are those of the tile that it covers.
use Rattle.std.proofs.Common.{◌≡◌, ◌≢◌, ℕ, ◌≤◌, ◌<◌, Bool, true, false, nat_le, [], inl, inr, ◌⊎◌, refl, arith, ap, sym, subst, length, min, cond}
use Rattle.std.specs.List.{Contains}
use Rattle.std.proofs.lemmas.Bool.{cases_eq, le-leb, leb-true}
use Rattle.std.proofs.lemmas.Bool.Decides.{nat_tests}
use Rattle.jx_base.specs.Places.{size_of}
use Rattle.jx_base.specs.Joined.{JoinedAt}
use Rattle.jx_base.proofs.Joined.{joined_has, joined_from}
use Rattle.jx_base.proofs.Lists.{contains_cons, contains_head, contains_none}
use Rattle.jx_geom.specs.Geometry.{Geometry, precincts_in, shape_of}
use Rattle.jx_marker.specs.declared.Progression.{Progression}
use Rattle.jx_progression.specs.declared.names.PacketName.{PacketName}
use Rattle.jx_progression.specs.Packets.{IsPacketName, Covers}
use Rattle.jx_progression.specs.Steps.{name_of}
use Rattle.jx_progression.specs.Loops.{layer_stop, comp_stop, precincts_of, one_packet, precincts_loop, comps_loop}
use Rattle.jx_progression.proofs.OrderLemmas.{same_fields}

-- ---- the numbers of a packet that is run through
pub record InLoops (g : Geometry) (layers : ℕ) (e : Progression) (p : PacketName) : Type 0 where
  pub layer : p.layer < layer_stop layers e
  pub res_from : e.rs ≤ p.res
  pub res_below : p.res < e.re
  pub comp_from : e.cs ≤ p.comp
  pub comp_below : p.comp < comp_stop g e
  pub precinct : p.precinct < precincts_of g p.comp p.res

comp_stop_none : (g : Geometry) (e : Progression) → e.ce ≡ 0 → comp_stop g e ≡ length g.shapes
comp_stop_none g e h = grind (arith, nat_tests)

comp_stop_some : (g : Geometry) (e : Progression) → e.ce ≢ 0 → comp_stop g e ≡ min e.ce (length g.shapes)
comp_stop_some g e h = grind (arith, nat_tests)

pub comp_there : (g : Geometry) (e : Progression) (c : ℕ) → c < comp_stop g e → (c < length g.shapes) × ((e.ce ≡ 0) ⊎ (c < e.ce))
comp_there g e c lt = elim (cases_eq e.ce 0) [
  | inl none ↦ (let s : comp_stop g e ≡ length g.shapes = comp_stop_none g e none in omega arith, inl none)
  | inr some ↦
      let s : comp_stop g e ≡ min e.ce (length g.shapes) = comp_stop_some g e some in
      (omega arith, inr (omega arith))
]

comp_below : (g : Geometry) (e : Progression) (c : ℕ) → c < length g.shapes → (e.ce ≡ 0) ⊎ (c < e.ce) → c < comp_stop g e
comp_below g e c lt end = elim (cases_eq e.ce 0) [
  | inl none ↦ let s : comp_stop g e ≡ length g.shapes = comp_stop_none g e none in omega arith
  | inr some ↦
      let s : comp_stop g e ≡ min e.ce (length g.shapes) = comp_stop_some g e some in
      elim end [ inl none ↦ absurd (some none) | inr less ↦ omega arith ]
]

pub precincts_to : (g : Geometry) (c r k : ℕ) → k < precincts_of g c r → (r ≤ (shape_of g c).levels) × (k < size_of (precincts_in g c r))
precincts_to g c r k lt = by (nat_le r (shape_of g c).levels) refl lt
  where
    by : (b : Bool) → nat_le r (shape_of g c).levels ≡ b → k < cond b (size_of (precincts_in g c r)) 0 → (r ≤ (shape_of g c).levels) × (k < size_of (precincts_in g c r))
    by true e less = (leb-true r (shape_of g c).levels e, less)
    by false e less = absurd (omega arith)

pub precincts_from : (g : Geometry) (c r k : ℕ) → r ≤ (shape_of g c).levels → k < size_of (precincts_in g c r) → k < precincts_of g c r
precincts_from g c r k le lt =
    let e : precincts_of g c r ≡ size_of (precincts_in g c r) = ap (λ (b : Bool). let n : ℕ = cond b (size_of (precincts_in g c r)) 0 in n) (le-leb r (shape_of g c).levels le) in
    omega arith

pub is_packet : (g : Geometry) (layers : ℕ) (e : Progression) (p : PacketName) → InLoops g layers e p → IsPacketName g layers p
is_packet g layers e p i =
    let l : p.layer < min e.lye layers = i.layer in
    let k = precincts_to g p.comp p.res p.precinct i.precinct in
    record {
      layer = omega arith;
      resolution = record { component = (comp_there g e p.comp i.comp_below).0; level = k.0 };
      precinct = k.1;
    }

pub is_covered : (g : Geometry) (layers : ℕ) (e : Progression) (p : PacketName) → InLoops g layers e p → Covers e p
is_covered g layers e p i =
    let l : p.layer < min e.lye layers = i.layer in
    record { layer = omega arith; res_from = i.res_from; res_below = i.res_below; comp_from = i.comp_from; comp_below = (comp_there g e p.comp i.comp_below).1 }

pub in_loops : (g : Geometry) (layers : ℕ) (e : Progression) (p : PacketName) → IsPacketName g layers p → Covers e p → InLoops g layers e p
in_loops g layers e p h c =
    let a : p.layer < layers = h.layer in
    let b : p.layer < e.lye = c.layer in
    record {
      layer = omega arith;
      res_from = c.res_from;
      res_below = c.res_below;
      comp_from = c.comp_from;
      comp_below = comp_below g e p.comp h.resolution.component c.comp_below;
      precinct = precincts_from g p.comp p.res p.precinct h.resolution.level h.precinct;
    }

-- ---- one packet
pub one_has : (l r c k : ℕ) (p : PacketName) → Contains (one_packet l r c k) p → name_of l r c k ≡ p
one_has l r c k p h = elim (contains_cons (name_of l r c k) [] p h) [ inl same ↦ same | inr none ↦ absurd (contains_none p none) ]

pub one_from : (l r c k : ℕ) (p : PacketName) → p.layer ≡ l → p.res ≡ r → p.comp ≡ c → p.precinct ≡ k → Contains (one_packet l r c k) p
one_from l r c k p el er ec ek =
    let same : name_of l r c k ≡ p = same_fields (name_of l r c k) p (sym el) (sym er) (sym ec) (sym ek) in
    subst (λ (q : PacketName). Contains (one_packet l r c k) q) same (contains_head (name_of l r c k) [])

-- ---- a layer of a resolution
pub record InPrecincts (g : Geometry) (l r c : ℕ) (p : PacketName) : Type 0 where
  pub layer : p.layer ≡ l
  pub res : p.res ≡ r
  pub comp : p.comp ≡ c
  pub precinct : p.precinct < precincts_of g c r

pub precincts_has : (g : Geometry) (l r c : ℕ) (p : PacketName) → Contains (precincts_loop g l r c) p → InPrecincts g l r c p
precincts_has g l r c p h =
    let d : JoinedAt (one_packet l r c) 0 (precincts_of g c r) p = joined_has (one_packet l r c) 0 (precincts_of g c r) p h in
    subst (λ (q : PacketName). InPrecincts g l r c q) (one_has l r c d.number p d.has) (record { layer = refl; res = refl; comp = refl; precinct = d.below })

pub record InComps (g : Geometry) (e : Progression) (l r : ℕ) (p : PacketName) : Type 0 where
  pub layer : p.layer ≡ l
  pub res : p.res ≡ r
  pub from : e.cs ≤ p.comp
  pub below : p.comp < comp_stop g e
  pub precinct : p.precinct < precincts_of g p.comp p.res

pub comps_has : (g : Geometry) (e : Progression) (l r : ℕ) (p : PacketName) → Contains (comps_loop g e l r) p → InComps g e l r p
comps_has g e l r p h =
    let d : JoinedAt (precincts_loop g l r) e.cs (comp_stop g e) p = joined_has (precincts_loop g l r) e.cs (comp_stop g e) p h in
    let i : InPrecincts g l r d.number p = precincts_has g l r d.number p d.has in
    record {
      layer = i.layer;
      res = i.res;
      from = subst (λ (n : ℕ). e.cs ≤ n) (sym i.comp) d.from;
      below = subst (λ (n : ℕ). n < comp_stop g e) (sym i.comp) d.below;
      precinct = subst (λ (n : ℕ). p.precinct < precincts_of g n p.res) (sym i.comp) (subst (λ (n : ℕ). p.precinct < precincts_of g d.number n) (sym i.res) i.precinct);
    }

pub comps_from : (g : Geometry) (layers : ℕ) (e : Progression) (p : PacketName) → InLoops g layers e p → Contains (comps_loop g e p.layer p.res) p
comps_from g layers e p i =
    joined_from (precincts_loop g p.layer p.res) e.cs (comp_stop g e) p (record {
      number = p.comp;
      from = i.comp_from;
      below = i.comp_below;
      has = joined_from (one_packet p.layer p.res p.comp) 0 (precincts_of g p.comp p.res) p (record {
        number = p.precinct;
        from = omega arith;
        below = i.precinct;
        has = one_from p.layer p.res p.comp p.precinct p refl refl refl refl;
      });
    })
