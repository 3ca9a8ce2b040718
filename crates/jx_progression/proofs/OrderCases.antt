-- What is shown of each progression order by itself (Table A.16): keys, what groups are sorted by, loops.
use Rattle.std.proofs.Common.{◌≡◌, ℕ, ◌<◌, ◌≤◌, true, false, List, [], ◌∷◌, inl, inr, ◌∙◌, ap, sym, subst, refl, arith, length}
use Rattle.std.proofs.lemmas.Bool.Decides.{nat_tests}
use Rattle.std.specs.List.{AllPairs, Contains}
use Rattle.jx_base.specs.Joined.{JoinedAt}
use Rattle.jx_base.proofs.Joined.{joined_has, joined_from}
use Rattle.jx_geom.specs.Geometry.{Geometry, GeometryInRange}
use Rattle.jx_marker.specs.declared.Progression.{Progression}
use Rattle.jx_progression.specs.declared.names.PacketName.{PacketName}
use Rattle.jx_progression.specs.declared.keys.Order.{Order}
use Rattle.jx_progression.specs.declared.keys.Order.TheVariants.{Lrcp, Rlcp, Rpcl, Pcrl, Cprl}
use Rattle.jx_progression.specs.Loops.{layer_stop, comp_stop, precincts_of, one_packet, precincts_loop, comps_loop, lrcp_loop, lrcp, rlcp_loop, rlcp, loops}
use Rattle.jx_progression.specs.Orders.{IsLess, ComesBefore, key_of, across_of, down_of}
use Rattle.jx_progression.specs.Packets.{IsPacketName, SamePrecinct}
use Rattle.jx_progression.specs.Steps.{across_or, by_layer, count_of, down_or, name_of, numbers_of, sort_key}
use Rattle.jx_progression.proofs.GroupLemmas.{count_is}
use Rattle.jx_progression.proofs.KeyLemmas.{same_place}
use Rattle.jx_progression.proofs.LessLemmas.{drop_zero, less_more}
use Rattle.jx_progression.proofs.MemberLemmas.{InLoops, InComps, one_has, precincts_has, comps_has, comps_from}
use Rattle.jx_progression.proofs.NestLemmas.{Sorted, nest, one_sorted_packet}
use Rattle.jx_progression.proofs.OrderLemmas.{same_fields}
use Rattle.jx_progression.proofs.PlaceLoops.{rpcl_sorted, rpcl_has, rpcl_from, pcrl_sorted, pcrl_has, pcrl_from, cprl_sorted, cprl_has, cprl_from}

-- ---- keys of one order have one length, and no two packets have one key
pub key_long : (g : Geometry) (o : Order) (p q : PacketName) → length (key_of g o p) ≡ length (key_of g o q)
key_long g Lrcp p q = refl
key_long g Rlcp p q = refl
key_long g Rpcl p q = refl
key_long g Pcrl p q = refl
key_long g Cprl p q = refl

record Four (a b c d a' b' c' d' : ℕ) : Type 0 where
  pub first : a ≡ a'
  pub second : b ≡ b'
  pub third : c ≡ c'
  pub fourth : d ≡ d'

four : (a b c d a' b' c' d' : ℕ) → (a ∷ b ∷ c ∷ d ∷ []) ≡ (a' ∷ b' ∷ c' ∷ d' ∷ []) → Four a b c d a' b' c' d'
four a b c d a' b' c' d' e = record { first = cc; second = cc; third = cc; fourth = cc }

record Five (a b c d f a' b' c' d' f' : ℕ) : Type 0 where
  pub first : a ≡ a'
  pub second : b ≡ b'
  pub third : c ≡ c'
  pub fourth : d ≡ d'
  pub fifth : f ≡ f'

five : (a b c d f a' b' c' d' f' : ℕ) → (a ∷ b ∷ c ∷ d ∷ f ∷ []) ≡ (a' ∷ b' ∷ c' ∷ d' ∷ f' ∷ []) → Five a b c d f a' b' c' d' f'
five a b c d f a' b' c' d' f' e = record { first = cc; second = cc; third = cc; fourth = cc; fifth = cc }

-- a key is that of one packet alone
pub one_key : (g : Geometry) (layers : ℕ) (o : Order) (p q : PacketName) → GeometryInRange g → IsPacketName g layers p → IsPacketName g layers q
    → key_of g o p ≡ key_of g o q → p ≡ q
one_key g layers Lrcp p q range hp hq e =
    let k = four p.layer p.res p.comp p.precinct q.layer q.res q.comp q.precinct e in same_fields p q k.first k.second k.third k.fourth
one_key g layers Rlcp p q range hp hq e =
    let k = four p.res p.layer p.comp p.precinct q.res q.layer q.comp q.precinct e in same_fields p q k.second k.first k.third k.fourth
one_key g layers Rpcl p q range hp hq e =
    let k = five p.res (down_of g p) (across_of g p) p.comp p.layer q.res (down_of g q) (across_of g q) q.comp q.layer e in
    same_fields p q k.fifth k.first k.fourth (same_place g layers p q range hp hq k.fourth k.first k.third k.second)
one_key g layers Pcrl p q range hp hq e =
    let k = five (down_of g p) (across_of g p) p.comp p.res p.layer (down_of g q) (across_of g q) q.comp q.res q.layer e in
    same_fields p q k.fifth k.fourth k.third (same_place g layers p q range hp hq k.third k.fourth k.second k.first)
one_key g layers Cprl p q range hp hq e =
    let k = five p.comp (down_of g p) (across_of g p) p.res p.layer q.comp (down_of g q) (across_of g q) q.res q.layer e in
    same_fields p q k.fifth k.fourth k.first (same_place g layers p q range hp hq k.first k.fourth k.third k.second)

-- ---- the numbers that are sorted by are those that the packets of a group share
abbrev pub head_of : Geometry → Order → PacketName → List ℕ
head_of g Lrcp p = p.layer ∷ p.res ∷ p.comp ∷ 0 ∷ []
head_of g Rlcp p = p.res ∷ p.layer ∷ p.comp ∷ 0 ∷ []
head_of g Rpcl p = p.res ∷ down_of g p ∷ across_of g p ∷ p.comp ∷ []
head_of g Pcrl p = down_of g p ∷ across_of g p ∷ p.comp ∷ p.res ∷ []
head_of g Cprl p = p.comp ∷ down_of g p ∷ across_of g p ∷ p.res ∷ []

pub head_less : (g : Geometry) (o : Order) (p q : PacketName) → IsLess (head_of g o p) (head_of g o q) → ComesBefore g o p q
head_less g Lrcp p q h =
    less_more (p.layer ∷ p.res ∷ p.comp ∷ []) (q.layer ∷ q.res ∷ q.comp ∷ []) (p.precinct ∷ []) (q.precinct ∷ [])
    (drop_zero p.layer p.res p.comp q.layer q.res q.comp h)
head_less g Rlcp p q h =
    less_more (p.res ∷ p.layer ∷ p.comp ∷ []) (q.res ∷ q.layer ∷ q.comp ∷ []) (p.precinct ∷ []) (q.precinct ∷ [])
    (drop_zero p.res p.layer p.comp q.res q.layer q.comp h)
head_less g Rpcl p q h = less_more (head_of g Rpcl p) (head_of g Rpcl q) (p.layer ∷ []) (q.layer ∷ []) h
head_less g Pcrl p q h = less_more (head_of g Pcrl p) (head_of g Pcrl q) (p.layer ∷ []) (q.layer ∷ []) h
head_less g Cprl p q h = less_more (head_of g Cprl p) (head_of g Cprl q) (p.layer ∷ []) (q.layer ∷ []) h

across_there : (g : Geometry) (layers : ℕ) (p : PacketName) → IsPacketName g layers p → across_or g p ≡ across_of g p
unfolding across_or
across_there g layers p h =
    let lt : p.precinct < count_of g p.comp p.res = omega (arith, h.precinct, count_is g p.comp p.res h.resolution) in
    grind (arith, nat_tests)

down_there : (g : Geometry) (layers : ℕ) (p : PacketName) → IsPacketName g layers p → down_or g p ≡ down_of g p
unfolding down_or
down_there g layers p h =
    let lt : p.precinct < count_of g p.comp p.res = omega (arith, h.precinct, count_is g p.comp p.res h.resolution) in
    grind (arith, nat_tests)

pub key_is : (g : Geometry) (layers : ℕ) (o : Order) (p : PacketName) → IsPacketName g layers p → numbers_of (sort_key g o p) ≡ head_of g o p
unfolding sort_key
key_is g layers Lrcp p h = refl
key_is g layers Rlcp p h = refl
key_is g layers Rpcl p h =
    ap (λ x. p.res ∷ down_or g p ∷ x ∷ p.comp ∷ []) (across_there g layers p h) ∙ ap (λ y. p.res ∷ y ∷ across_of g p ∷ p.comp ∷ []) (down_there g layers p h)
key_is g layers Pcrl p h =
    ap (λ x. down_or g p ∷ x ∷ p.comp ∷ p.res ∷ []) (across_there g layers p h) ∙ ap (λ y. y ∷ across_of g p ∷ p.comp ∷ p.res ∷ []) (down_there g layers p h)
key_is g layers Cprl p h =
    ap (λ x. p.comp ∷ down_or g p ∷ x ∷ p.res ∷ []) (across_there g layers p h) ∙ ap (λ y. p.comp ∷ y ∷ across_of g p ∷ p.res ∷ []) (down_there g layers p h)

pub layer_shares : (g : Geometry) (o : Order) (x : PacketName) (k : ℕ) → by_layer o ≡ true → head_of g o (name_of x.layer x.res x.comp k) ≡ head_of g o x
layer_shares g Lrcp x k h = refl
layer_shares g Rlcp x k h = refl
layer_shares g Rpcl x k h = absurd (cc)
layer_shares g Pcrl x k h = absurd (cc)
layer_shares g Cprl x k h = absurd (cc)

pub precinct_shares : (g : Geometry) (o : Order) (x : PacketName) (n : ℕ) → by_layer o ≡ false → head_of g o (name_of n x.res x.comp x.precinct) ≡ head_of g o x
precinct_shares g Lrcp x n h = absurd (cc)
precinct_shares g Rlcp x n h = absurd (cc)
precinct_shares g Rpcl x n h = refl
precinct_shares g Pcrl x n h = refl
precinct_shares g Cprl x n h = refl

-- ---- packets that share it
-- the layer, resolution and component of packets with one head
pub record SameRow (p q : PacketName) : Type 0 where
  pub comp : p.comp ≡ q.comp
  pub res : p.res ≡ q.res

pub head_row : (g : Geometry) (o : Order) (p q : PacketName) → head_of g o p ≡ head_of g o q → SameRow p q
head_row g Lrcp p q e = let f = four p.layer p.res p.comp 0 q.layer q.res q.comp 0 e in record { comp = f.third; res = f.second }
head_row g Rlcp p q e = let f = four p.res p.layer p.comp 0 q.res q.layer q.comp 0 e in record { comp = f.third; res = f.first }
head_row g Rpcl p q e =
    let f = four p.res (down_of g p) (across_of g p) p.comp q.res (down_of g q) (across_of g q) q.comp e in record { comp = f.fourth; res = f.first }
head_row g Pcrl p q e =
    let f = four (down_of g p) (across_of g p) p.comp p.res (down_of g q) (across_of g q) q.comp q.res e in record { comp = f.third; res = f.fourth }
head_row g Cprl p q e =
    let f = four p.comp (down_of g p) (across_of g p) p.res q.comp (down_of g q) (across_of g q) q.res e in record { comp = f.first; res = f.fourth }

pub head_layer : (g : Geometry) (o : Order) (p q : PacketName) → by_layer o ≡ true → head_of g o p ≡ head_of g o q → p.layer ≡ q.layer
head_layer g Lrcp p q h e = (four p.layer p.res p.comp 0 q.layer q.res q.comp 0 e).first
head_layer g Rlcp p q h e = (four p.res p.layer p.comp 0 q.res q.layer q.comp 0 e).second
head_layer g Rpcl p q h e = absurd (cc)
head_layer g Pcrl p q h e = absurd (cc)
head_layer g Cprl p q h e = absurd (cc)

pub head_precinct : (g : Geometry) (layers : ℕ) (o : Order) (p q : PacketName) → GeometryInRange g → IsPacketName g layers p → IsPacketName g layers q
    → by_layer o ≡ false → head_of g o p ≡ head_of g o q → p.precinct ≡ q.precinct
head_precinct g layers Lrcp p q range hp hq h e = absurd (cc)
head_precinct g layers Rlcp p q range hp hq h e = absurd (cc)
head_precinct g layers Rpcl p q range hp hq h e =
    let f = four p.res (down_of g p) (across_of g p) p.comp q.res (down_of g q) (across_of g q) q.comp e in
    same_place g layers p q range hp hq f.fourth f.first f.third f.second
head_precinct g layers Pcrl p q range hp hq h e =
    let f = four (down_of g p) (across_of g p) p.comp p.res (down_of g q) (across_of g q) q.comp q.res e in
    same_place g layers p q range hp hq f.third f.fourth f.second f.first
head_precinct g layers Cprl p q range hp hq h e =
    let f = four p.comp (down_of g p) (across_of g p) p.res q.comp (down_of g q) (across_of g q) q.res e in
    same_place g layers p q range hp hq f.first f.fourth f.third f.second

-- ---- packets of one group
pub layer_rises : (g : Geometry) (o : Order) (x : PacketName) (i j : ℕ) → by_layer o ≡ true → i < j
    → ComesBefore g o (name_of x.layer x.res x.comp i) (name_of x.layer x.res x.comp j)
layer_rises g Lrcp x i j h lt = inr (refl, inr (refl, inr (refl, inl lt)))
layer_rises g Rlcp x i j h lt = inr (refl, inr (refl, inr (refl, inl lt)))
layer_rises g Rpcl x i j h lt = absurd (cc)
layer_rises g Pcrl x i j h lt = absurd (cc)
layer_rises g Cprl x i j h lt = absurd (cc)

pub precinct_rises : (g : Geometry) (o : Order) (x : PacketName) (i j : ℕ) → by_layer o ≡ false → i < j
    → ComesBefore g o (name_of i x.res x.comp x.precinct) (name_of j x.res x.comp x.precinct)
precinct_rises g Lrcp x i j h lt = absurd (cc)
precinct_rises g Rlcp x i j h lt = absurd (cc)
precinct_rises g Rpcl x i j h lt = inr (refl, inr (refl, inr (refl, inr (refl, inl lt))))
precinct_rises g Pcrl x i j h lt = inr (refl, inr (refl, inr (refl, inr (refl, inl lt))))
precinct_rises g Cprl x i j h lt = inr (refl, inr (refl, inr (refl, inr (refl, inl lt))))

-- ---- two packets of a precinct
-- keys that begin with the same number, and keys that differ in their first one alone
skip : (x y : ℕ) (xs ys : List ℕ) → x ≡ y → IsLess (x ∷ xs) (y ∷ ys) → IsLess xs ys
skip x y xs ys e h = elim h [ inl lt ↦ absurd (omega arith) | inr rest ↦ rest.1 ]

first : (x y : ℕ) (xs ys : List ℕ) → (IsLess xs ys → ⊥) → IsLess (x ∷ xs) (y ∷ ys) → x < y
first x y xs ys none h = elim h [ inl lt ↦ lt | inr rest ↦ absurd (none rest.1) ]

pub record Placed (g : Geometry) (p q : PacketName) : Type 0 where
  pub across : across_of g p ≡ across_of g q
  pub down : down_of g p ≡ down_of g q

pub rises : (g : Geometry) (o : Order) (p q : PacketName) → Placed g p q → SamePrecinct p q → ComesBefore g o p q → p.layer < q.layer
rises g Lrcp p q at same h =
    first p.layer q.layer (p.res ∷ p.comp ∷ p.precinct ∷ []) (q.res ∷ q.comp ∷ q.precinct ∷ [])
    (λ r. skip p.precinct q.precinct [] [] same.precinct (skip p.comp q.comp (p.precinct ∷ []) (q.precinct ∷ []) same.comp
    (skip p.res q.res (p.comp ∷ p.precinct ∷ []) (q.comp ∷ q.precinct ∷ []) same.res r))) h
rises g Rlcp p q at same h =
    first p.layer q.layer (p.comp ∷ p.precinct ∷ []) (q.comp ∷ q.precinct ∷ [])
    (λ r. skip p.precinct q.precinct [] [] same.precinct (skip p.comp q.comp (p.precinct ∷ []) (q.precinct ∷ []) same.comp r))
    (skip p.res q.res (p.layer ∷ p.comp ∷ p.precinct ∷ []) (q.layer ∷ q.comp ∷ q.precinct ∷ []) same.res h)
rises g Rpcl p q at same h =
    first p.layer q.layer [] [] (λ r. r)
    (skip p.comp q.comp (p.layer ∷ []) (q.layer ∷ []) same.comp
    (skip (across_of g p) (across_of g q) (p.comp ∷ p.layer ∷ []) (q.comp ∷ q.layer ∷ []) at.across
    (skip (down_of g p) (down_of g q) (across_of g p ∷ p.comp ∷ p.layer ∷ []) (across_of g q ∷ q.comp ∷ q.layer ∷ []) at.down
    (skip p.res q.res (down_of g p ∷ across_of g p ∷ p.comp ∷ p.layer ∷ []) (down_of g q ∷ across_of g q ∷ q.comp ∷ q.layer ∷ []) same.res h))))
rises g Pcrl p q at same h =
    first p.layer q.layer [] [] (λ r. r)
    (skip p.res q.res (p.layer ∷ []) (q.layer ∷ []) same.res
    (skip p.comp q.comp (p.res ∷ p.layer ∷ []) (q.res ∷ q.layer ∷ []) same.comp
    (skip (across_of g p) (across_of g q) (p.comp ∷ p.res ∷ p.layer ∷ []) (q.comp ∷ q.res ∷ q.layer ∷ []) at.across
    (skip (down_of g p) (down_of g q) (across_of g p ∷ p.comp ∷ p.res ∷ p.layer ∷ []) (across_of g q ∷ q.comp ∷ q.res ∷ q.layer ∷ []) at.down h))))
rises g Cprl p q at same h =
    first p.layer q.layer [] [] (λ r. r)
    (skip p.res q.res (p.layer ∷ []) (q.layer ∷ []) same.res
    (skip (across_of g p) (across_of g q) (p.res ∷ p.layer ∷ []) (q.res ∷ q.layer ∷ []) at.across
    (skip (down_of g p) (down_of g q) (across_of g p ∷ p.res ∷ p.layer ∷ []) (across_of g q ∷ q.res ∷ q.layer ∷ []) at.down
    (skip p.comp q.comp (down_of g p ∷ across_of g p ∷ p.res ∷ p.layer ∷ []) (down_of g q ∷ across_of g q ∷ q.res ∷ q.layer ∷ []) same.comp h))))

-- ---- the loops of the two orders that run through layers and resolutions (B.12.1.1 and B.12.1.2)
module _ (g : Geometry) (layers : ℕ) (e : Progression) where
  in_precincts : (l r c : ℕ) → Sorted (λ (p : PacketName). p.precinct ∷ []) (precincts_loop g l r c)
  in_precincts l r c =
      nest (λ (p : PacketName). p.precinct) (λ (p : PacketName). []) (one_packet l r c) 0 (precincts_of g c r)
      (λ k ha hb p h. ap (λ (q : PacketName). q.precinct) (sym (one_has l r c k p h)))
      (λ k ha hb. one_sorted_packet (λ (p : PacketName). []) (name_of l r c k))

  in_comps : (l r : ℕ) → Sorted (λ (p : PacketName). p.comp ∷ p.precinct ∷ []) (comps_loop g e l r)
  in_comps l r =
      nest (λ (p : PacketName). p.comp) (λ (p : PacketName). p.precinct ∷ []) (precincts_loop g l r) e.cs (comp_stop g e)
      (λ c ha hb p h. (precincts_has g l r c p h).comp) (λ c ha hb. in_precincts l r c)

  -- ---- by layers first
  lrcp_layer : (l : ℕ) (p : PacketName) → Contains (lrcp_loop g e l) p → p.layer ≡ l
  lrcp_layer l p h =
      let d : JoinedAt (comps_loop g e l) e.rs e.re p = joined_has (comps_loop g e l) e.rs e.re p h in
      (comps_has g e l d.number p d.has).layer

  pub lrcp_sorted : AllPairs (ComesBefore g Lrcp) (lrcp g layers e)
  lrcp_sorted =
      nest (λ (p : PacketName). p.layer) (λ (p : PacketName). p.res ∷ p.comp ∷ p.precinct ∷ []) (lrcp_loop g e) 0 (layer_stop layers e)
      (λ l ha hb p h. lrcp_layer l p h)
      (λ l ha hb. nest (λ (p : PacketName). p.res) (λ (p : PacketName). p.comp ∷ p.precinct ∷ []) (comps_loop g e l) e.rs e.re
      (λ r hc hd p h. (comps_has g e l r p h).res) (λ r hc hd. in_comps l r))

  pub lrcp_has : (p : PacketName) → Contains (lrcp g layers e) p → InLoops g layers e p
  lrcp_has p h =
      let d : JoinedAt (lrcp_loop g e) 0 (layer_stop layers e) p = joined_has (lrcp_loop g e) 0 (layer_stop layers e) p h in
      let f : JoinedAt (comps_loop g e d.number) e.rs e.re p = joined_has (comps_loop g e d.number) e.rs e.re p d.has in
      let i : InComps g e d.number f.number p = comps_has g e d.number f.number p f.has in
      record {
        layer = subst (λ (n : ℕ). n < layer_stop layers e) (sym i.layer) d.below;
        res_from = subst (λ (n : ℕ). e.rs ≤ n) (sym i.res) f.from;
        res_below = subst (λ (n : ℕ). n < e.re) (sym i.res) f.below;
        comp_from = i.from;
        comp_below = i.below;
        precinct = i.precinct;
      }

  pub lrcp_from : (p : PacketName) → InLoops g layers e p → Contains (lrcp g layers e) p
  lrcp_from p i =
      joined_from (lrcp_loop g e) 0 (layer_stop layers e) p (record {
        number = p.layer;
        from = omega arith;
        below = i.layer;
        has = joined_from (comps_loop g e p.layer) e.rs e.re p (record { number = p.res; from = i.res_from; below = i.res_below; has = comps_from g layers e p i });
      })

  -- ---- by resolutions first
  abbrev layers_of : ℕ → ℕ → List PacketName
  layers_of r l = comps_loop g e l r

  rlcp_res : (r : ℕ) (p : PacketName) → Contains (rlcp_loop g layers e r) p → p.res ≡ r
  rlcp_res r p h =
      let d : JoinedAt (layers_of r) 0 (layer_stop layers e) p = joined_has (layers_of r) 0 (layer_stop layers e) p h in
      (comps_has g e d.number r p d.has).res

  pub rlcp_sorted : AllPairs (ComesBefore g Rlcp) (rlcp g layers e)
  rlcp_sorted =
      nest (λ (p : PacketName). p.res) (λ (p : PacketName). p.layer ∷ p.comp ∷ p.precinct ∷ []) (rlcp_loop g layers e) e.rs e.re
      (λ r ha hb p h. rlcp_res r p h)
      (λ r ha hb. nest (λ (p : PacketName). p.layer) (λ (p : PacketName). p.comp ∷ p.precinct ∷ []) (layers_of r) 0 (layer_stop layers e)
      (λ l hc hd p h. (comps_has g e l r p h).layer) (λ l hc hd. in_comps l r))

  pub rlcp_has : (p : PacketName) → Contains (rlcp g layers e) p → InLoops g layers e p
  rlcp_has p h =
      let d : JoinedAt (rlcp_loop g layers e) e.rs e.re p = joined_has (rlcp_loop g layers e) e.rs e.re p h in
      let f : JoinedAt (layers_of d.number) 0 (layer_stop layers e) p = joined_has (layers_of d.number) 0 (layer_stop layers e) p d.has in
      let i : InComps g e f.number d.number p = comps_has g e f.number d.number p f.has in
      record {
        layer = subst (λ (n : ℕ). n < layer_stop layers e) (sym i.layer) f.below;
        res_from = subst (λ (n : ℕ). e.rs ≤ n) (sym i.res) d.from;
        res_below = subst (λ (n : ℕ). n < e.re) (sym i.res) d.below;
        comp_from = i.from;
        comp_below = i.below;
        precinct = i.precinct;
      }

  pub rlcp_from : (p : PacketName) → InLoops g layers e p → Contains (rlcp g layers e) p
  rlcp_from p i =
      joined_from (rlcp_loop g layers e) e.rs e.re p (record {
        number = p.res;
        from = i.res_from;
        below = i.res_below;
        has = joined_from (layers_of p.res) 0 (layer_stop layers e) p (record { number = p.layer; from = omega arith; below = i.layer; has = comps_from g layers e p i });
      })

-- ---- the loops of all
pub loops_sorted : (g : Geometry) (layers : ℕ) (e : Progression) (o : Order) → GeometryInRange g → AllPairs (ComesBefore g o) (loops g layers e o)
loops_sorted g layers e Lrcp range = lrcp_sorted g layers e
loops_sorted g layers e Rlcp range = rlcp_sorted g layers e
loops_sorted g layers e Rpcl range = rpcl_sorted g layers e range
loops_sorted g layers e Pcrl range = pcrl_sorted g layers e range
loops_sorted g layers e Cprl range = cprl_sorted g layers e range

pub loops_has : (g : Geometry) (layers : ℕ) (e : Progression) (o : Order) → GeometryInRange g → (p : PacketName) → Contains (loops g layers e o) p → InLoops g layers e p
loops_has g layers e Lrcp range p h = lrcp_has g layers e p h
loops_has g layers e Rlcp range p h = rlcp_has g layers e p h
loops_has g layers e Rpcl range p h = rpcl_has g layers e range p h
loops_has g layers e Pcrl range p h = pcrl_has g layers e range p h
loops_has g layers e Cprl range p h = cprl_has g layers e range p h

pub loops_from : (g : Geometry) (layers : ℕ) (e : Progression) (o : Order) → GeometryInRange g → (p : PacketName) → InLoops g layers e p → Contains (loops g layers e o) p
loops_from g layers e Lrcp range p i = lrcp_from g layers e p i
loops_from g layers e Rlcp range p i = rlcp_from g layers e p i
loops_from g layers e Rpcl range p i = rpcl_from g layers e range p i
loops_from g layers e Pcrl range p i = pcrl_from g layers e range p i
loops_from g layers e Cprl range p i = cprl_from g layers e range p i
