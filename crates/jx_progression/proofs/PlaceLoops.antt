-- The three orders that run through places of the reference grid (B.12.1.3 to B.12.1.5).
use Rattle.std.proofs.Common.{◌≡◌, ℕ, ◌≤◌, ◌<◌, Bool, true, false, List, [], ◌∷◌, refl, arith, ap, sym, subst, cond}
use Rattle.std.specs.List.{AllPairs, Contains}
use Rattle.jx_base.specs.Joined.{joined, JoinedAt}
use Rattle.jx_base.specs.Places.{InSpan}
use Rattle.jx_base.proofs.Joined.{joined_has, joined_from}
use Rattle.jx_base.proofs.Lists.{contains_none}
use Rattle.jx_geom.specs.Geometry.{Geometry, GeometryInRange, HasResolution, rect_of_tile}
use Rattle.jx_marker.specs.declared.Progression.{Progression}
use Rattle.jx_progression.specs.declared.names.PacketName.{PacketName}
use Rattle.jx_progression.specs.declared.keys.Order.TheVariants.{Rpcl, Pcrl, Cprl}
use Rattle.jx_progression.specs.Orders.{ComesBefore, across_of, down_of}
use Rattle.jx_progression.specs.Steps.{name_of}
use Rattle.jx_progression.specs.Loops.{layer_stop, comp_stop, precincts_of, one_packet, is_visited, precinct_at, place_loop, rpcl_x, rpcl_y, rpcl_r, rpcl, ress_loop, pcrl_x, pcrl_y, pcrl, cprl_y, cprl_c, cprl}
use Rattle.jx_progression.proofs.MemberLemmas.{InLoops, one_has, one_from, comp_there, precincts_to, precincts_from}
use Rattle.jx_progression.proofs.NestLemmas.{Sorted, nest, one_sorted_packet}
use Rattle.jx_progression.proofs.PlaceLemmas.{visited_at, at_place}

module _ (g : Geometry) (layers : ℕ) (e : Progression) (range : GeometryInRange g) where
  abbrev low_y : ℕ
  low_y = (rect_of_tile g).y.low

  abbrev high_y : ℕ
  high_y = (rect_of_tile g).y.high

  abbrev low_x : ℕ
  low_x = (rect_of_tile g).x.low

  abbrev high_x : ℕ
  high_x = (rect_of_tile g).x.high

  -- ---- one place
  record Placed (c r y x : ℕ) (p : PacketName) : Type 0 where
    pub res : p.res ≡ r
    pub comp : p.comp ≡ c
    pub down : down_of g p ≡ y
    pub across : across_of g p ≡ x
    pub layer : p.layer < layer_stop layers e
    pub precinct : p.precinct < precincts_of g p.comp p.res

  abbrev at_layers : ℕ → ℕ → ℕ → ℕ → ℕ → List PacketName
  at_layers c r y x l = one_packet l r c (precinct_at g c r y x)

  placed : (c r y x : ℕ) (p : PacketName) → c < comp_stop g e → low_y ≤ y → low_x ≤ x → Contains (place_loop g layers e c r y x) p → Placed c r y x p
  placed c r y x p hc hy hx h = by (is_visited g c r y x) refl h
    where
      by : (b : Bool) → is_visited g c r y x ≡ b → Contains (cond b (joined (at_layers c r y x) 0 (layer_stop layers e)) []) p → Placed c r y x p
      by false v k = absurd (contains_none p k)
      by true v k =
          let d : JoinedAt (at_layers c r y x) 0 (layer_stop layers e) p = joined_has (at_layers c r y x) 0 (layer_stop layers e) p k in
          let a = visited_at g c r y x range (comp_there g e c hc).0 hy hx v in
          subst (λ (q : PacketName). Placed c r y x q) (one_has d.number r c (precinct_at g c r y x) p d.has) (record {
            res = refl;
            comp = refl;
            down = a.down;
            across = a.across;
            layer = d.below;
            precinct = precincts_from g c r (precinct_at g c r y x) a.resolution.level a.precinct;
          })

  in_place : (c r y x : ℕ) → Sorted (λ (p : PacketName). p.layer ∷ []) (place_loop g layers e c r y x)
  in_place c r y x = by (is_visited g c r y x)
    where
      by : (b : Bool) → Sorted (λ (p : PacketName). p.layer ∷ []) (cond b (joined (at_layers c r y x) 0 (layer_stop layers e)) [])
      by false = λ i j d lt below. absurd (omega arith)
      by true =
          nest (λ (p : PacketName). p.layer) (λ (p : PacketName). []) (at_layers c r y x) 0 (layer_stop layers e)
          (λ l ha hb p h. ap (λ (q : PacketName). q.layer) (sym (one_has l r c (precinct_at g c r y x) p h)))
          (λ l ha hb. one_sorted_packet (λ (p : PacketName). []) (name_of l r c (precinct_at g c r y x)))

  in_loops_at : (c r y x : ℕ) (p : PacketName) → Placed c r y x p → e.rs ≤ r → r < e.re → e.cs ≤ c → c < comp_stop g e → InLoops g layers e p
  in_loops_at c r y x p i hr hs hc hd = record {
    layer = i.layer;
    res_from = subst (λ (n : ℕ). e.rs ≤ n) (sym i.res) hr;
    res_below = subst (λ (n : ℕ). n < e.re) (sym i.res) hs;
    comp_from = subst (λ (n : ℕ). e.cs ≤ n) (sym i.comp) hc;
    comp_below = subst (λ (n : ℕ). n < comp_stop g e) (sym i.comp) hd;
    precinct = i.precinct;
  }

  record PlaceOf (p : PacketName) : Type 0 where
    pub down : InSpan (rect_of_tile g).y (down_of g p)
    pub across : InSpan (rect_of_tile g).x (across_of g p)
    pub has : Contains (place_loop g layers e p.comp p.res (down_of g p) (across_of g p)) p

  place_of_packet : (p : PacketName) → InLoops g layers e p → PlaceOf p
  place_of_packet p i =
      let k = precincts_to g p.comp p.res p.precinct i.precinct in
      let h : HasResolution g p.comp p.res = record { component = (comp_there g e p.comp i.comp_below).0; level = k.0 } in
      let a = at_place g p.comp p.res p.precinct range h k.1 in
      let y = down_of g p in
      let x = across_of g p in
      let inner : Contains (joined (at_layers p.comp p.res y x) 0 (layer_stop layers e)) p = joined_from (at_layers p.comp p.res y x) 0 (layer_stop layers e) p (record {
        number = p.layer;
        from = omega arith;
        below = i.layer;
        has = one_from p.layer p.res p.comp (precinct_at g p.comp p.res y x) p refl refl refl (sym a.precinct);
      }) in
      record {
        down = a.down;
        across = a.across;
        has = subst (λ (b : Bool). Contains (cond b (joined (at_layers p.comp p.res y x) 0 (layer_stop layers e)) []) p) (sym a.visited) inner;
      }

  -- ---- resolution, place, component, layer
  abbrev comps_at : ℕ → ℕ → ℕ → ℕ → List PacketName
  comps_at r y x c = place_loop g layers e c r y x

  record Inside (c r y x : ℕ) (p : PacketName) : Type 0 where
    pub placed : Placed c r y x p
    pub comp_from : e.cs ≤ c
    pub comp_below : c < comp_stop g e

  rpcl_x_has : (r y x : ℕ) (p : PacketName) → low_y ≤ y → low_x ≤ x → Contains (rpcl_x g layers e r y x) p → (c : ℕ) × Inside c r y x p
  rpcl_x_has r y x p hy hx h =
      let d : JoinedAt (comps_at r y x) e.cs (comp_stop g e) p = joined_has (comps_at r y x) e.cs (comp_stop g e) p h in
      (d.number, record { placed = placed d.number r y x p d.below hy hx d.has; comp_from = d.from; comp_below = d.below })

  rpcl_y_has : (r y : ℕ) (p : PacketName) → low_y ≤ y → Contains (rpcl_y g layers e r y) p → (c : ℕ) × (x : ℕ) × Inside c r y x p
  rpcl_y_has r y p hy h =
      let d : JoinedAt (rpcl_x g layers e r y) low_x high_x p = joined_has (rpcl_x g layers e r y) low_x high_x p h in
      let i = rpcl_x_has r y d.number p hy d.from d.has in
      (i.0, d.number, i.1)

  rpcl_r_has : (r : ℕ) (p : PacketName) → Contains (rpcl_r g layers e r) p → (c : ℕ) × (x : ℕ) × (y : ℕ) × Inside c r y x p
  rpcl_r_has r p h =
      let d : JoinedAt (rpcl_y g layers e r) low_y high_y p = joined_has (rpcl_y g layers e r) low_y high_y p h in
      let i = rpcl_y_has r d.number p d.from d.has in
      (i.0, i.1, d.number, i.2)

  pub rpcl_sorted : AllPairs (ComesBefore g Rpcl) (rpcl g layers e)
  rpcl_sorted =
      nest (λ (p : PacketName). p.res) (λ (p : PacketName). down_of g p ∷ across_of g p ∷ p.comp ∷ p.layer ∷ []) (rpcl_r g layers e) e.rs e.re
      (λ r ha hb p h. (rpcl_r_has r p h).3.placed.res)
      (λ r ha hb. nest (λ (p : PacketName). down_of g p) (λ (p : PacketName). across_of g p ∷ p.comp ∷ p.layer ∷ []) (rpcl_y g layers e r) low_y high_y
      (λ y hy hz p h. (rpcl_y_has r y p hy h).2.placed.down)
      (λ y hy hz. nest (λ (p : PacketName). across_of g p) (λ (p : PacketName). p.comp ∷ p.layer ∷ []) (rpcl_x g layers e r y) low_x high_x
      (λ x hx hw p h. (rpcl_x_has r y x p hy hx h).1.placed.across)
      (λ x hx hw. nest (λ (p : PacketName). p.comp) (λ (p : PacketName). p.layer ∷ []) (comps_at r y x) e.cs (comp_stop g e)
      (λ c hc hd p h. (placed c r y x p hd hy hx h).comp) (λ c hc hd. in_place c r y x))))

  pub rpcl_has : (p : PacketName) → Contains (rpcl g layers e) p → InLoops g layers e p
  rpcl_has p h =
      let d : JoinedAt (rpcl_r g layers e) e.rs e.re p = joined_has (rpcl_r g layers e) e.rs e.re p h in
      let i = rpcl_r_has d.number p d.has in
      in_loops_at i.0 d.number i.2 i.1 p i.3.placed d.from d.below i.3.comp_from i.3.comp_below

  pub rpcl_from : (p : PacketName) → InLoops g layers e p → Contains (rpcl g layers e) p
  rpcl_from p i =
      let a = place_of_packet p i in
      let y = down_of g p in
      let x = across_of g p in
      joined_from (rpcl_r g layers e) e.rs e.re p (record {
        number = p.res;
        from = i.res_from;
        below = i.res_below;
        has =
            joined_from (rpcl_y g layers e p.res) low_y high_y p (record {
              number = y;
              from = a.down.from;
              below = a.down.below;
              has =
                  joined_from (rpcl_x g layers e p.res y) low_x high_x p (record {
                    number = x;
                    from = a.across.from;
                    below = a.across.below;
                    has =
                        joined_from (comps_at p.res y x) e.cs (comp_stop g e) p (record { number = p.comp; from = i.comp_from; below = i.comp_below; has = a.has });
                  });
            });
      })

  -- ---- the resolutions of a component at a place
  abbrev ress_at : ℕ → ℕ → ℕ → ℕ → List PacketName
  ress_at y x c r = place_loop g layers e c r y x

  record InRess (c y x : ℕ) (p : PacketName) : Type 0 where
    pub res : ℕ
    pub placed : Placed c res y x p
    pub res_from : e.rs ≤ res
    pub res_below : res < e.re

  ress_has : (c y x : ℕ) (p : PacketName) → c < comp_stop g e → low_y ≤ y → low_x ≤ x → Contains (ress_loop g layers e y x c) p → InRess c y x p
  ress_has c y x p hc hy hx h =
      let d : JoinedAt (ress_at y x c) e.rs e.re p = joined_has (ress_at y x c) e.rs e.re p h in
      record { res = d.number; placed = placed c d.number y x p hc hy hx d.has; res_from = d.from; res_below = d.below }

  in_ress : (c y x : ℕ) → c < comp_stop g e → low_y ≤ y → low_x ≤ x → Sorted (λ (p : PacketName). p.res ∷ p.layer ∷ []) (ress_loop g layers e y x c)
  in_ress c y x hc hy hx =
      nest (λ (p : PacketName). p.res) (λ (p : PacketName). p.layer ∷ []) (ress_at y x c) e.rs e.re
      (λ r ha hb p h. (placed c r y x p hc hy hx h).res) (λ r ha hb. in_place c r y x)

  ress_from : (p : PacketName) → InLoops g layers e p → Contains (ress_loop g layers e (down_of g p) (across_of g p) p.comp) p
  ress_from p i = joined_from (ress_at (down_of g p) (across_of g p) p.comp) e.rs e.re p (record { number = p.res; from = i.res_from; below = i.res_below; has = (place_of_packet p i).has })

  -- ---- place, component, resolution, layer
  record InX (y x : ℕ) (p : PacketName) : Type 0 where
    pub comp : ℕ
    pub ress : InRess comp y x p
    pub comp_from : e.cs ≤ comp
    pub comp_below : comp < comp_stop g e

  pcrl_x_has : (y x : ℕ) (p : PacketName) → low_y ≤ y → low_x ≤ x → Contains (pcrl_x g layers e y x) p → InX y x p
  pcrl_x_has y x p hy hx h =
      let d : JoinedAt (ress_loop g layers e y x) e.cs (comp_stop g e) p = joined_has (ress_loop g layers e y x) e.cs (comp_stop g e) p h in
      record { comp = d.number; ress = ress_has d.number y x p d.below hy hx d.has; comp_from = d.from; comp_below = d.below }

  pcrl_y_has : (y : ℕ) (p : PacketName) → low_y ≤ y → Contains (pcrl_y g layers e y) p → (x : ℕ) × InX y x p
  pcrl_y_has y p hy h =
      let d : JoinedAt (pcrl_x g layers e y) low_x high_x p = joined_has (pcrl_x g layers e y) low_x high_x p h in
      (d.number, pcrl_x_has y d.number p hy d.from d.has)

  pub pcrl_sorted : AllPairs (ComesBefore g Pcrl) (pcrl g layers e)
  pcrl_sorted =
      nest (λ (p : PacketName). down_of g p) (λ (p : PacketName). across_of g p ∷ p.comp ∷ p.res ∷ p.layer ∷ []) (pcrl_y g layers e) low_y high_y
      (λ y hy hz p h. (pcrl_y_has y p hy h).1.ress.placed.down)
      (λ y hy hz. nest (λ (p : PacketName). across_of g p) (λ (p : PacketName). p.comp ∷ p.res ∷ p.layer ∷ []) (pcrl_x g layers e y) low_x high_x
      (λ x hx hw p h. (pcrl_x_has y x p hy hx h).ress.placed.across)
      (λ x hx hw. nest (λ (p : PacketName). p.comp) (λ (p : PacketName). p.res ∷ p.layer ∷ []) (ress_loop g layers e y x) e.cs (comp_stop g e)
      (λ c hc hd p h. (ress_has c y x p hd hy hx h).placed.comp) (λ c hc hd. in_ress c y x hd hy hx)))

  pub pcrl_has : (p : PacketName) → Contains (pcrl g layers e) p → InLoops g layers e p
  pcrl_has p h =
      let d : JoinedAt (pcrl_y g layers e) low_y high_y p = joined_has (pcrl_y g layers e) low_y high_y p h in
      let i = pcrl_y_has d.number p d.from d.has in
      in_loops_at i.1.comp i.1.ress.res d.number i.0 p i.1.ress.placed i.1.ress.res_from i.1.ress.res_below i.1.comp_from i.1.comp_below

  pub pcrl_from : (p : PacketName) → InLoops g layers e p → Contains (pcrl g layers e) p
  pcrl_from p i =
      let a = place_of_packet p i in
      let y = down_of g p in
      let x = across_of g p in
      joined_from (pcrl_y g layers e) low_y high_y p (record {
        number = y;
        from = a.down.from;
        below = a.down.below;
        has =
            joined_from (pcrl_x g layers e y) low_x high_x p (record {
              number = x;
              from = a.across.from;
              below = a.across.below;
              has =
                  joined_from (ress_loop g layers e y x) e.cs (comp_stop g e) p (record { number = p.comp; from = i.comp_from; below = i.comp_below; has = ress_from p i });
            });
      })

  -- ---- component, place, resolution, layer
  abbrev acrosses_at : ℕ → ℕ → ℕ → List PacketName
  acrosses_at c y x = ress_loop g layers e y x c

  cprl_y_has : (c y : ℕ) (p : PacketName) → c < comp_stop g e → low_y ≤ y → Contains (cprl_y g layers e c y) p → (x : ℕ) × InRess c y x p
  cprl_y_has c y p hc hy h =
      let d : JoinedAt (acrosses_at c y) low_x high_x p = joined_has (acrosses_at c y) low_x high_x p h in
      (d.number, ress_has c y d.number p hc hy d.from d.has)

  cprl_c_has : (c : ℕ) (p : PacketName) → c < comp_stop g e → Contains (cprl_c g layers e c) p → (x : ℕ) × (y : ℕ) × InRess c y x p
  cprl_c_has c p hc h =
      let d : JoinedAt (cprl_y g layers e c) low_y high_y p = joined_has (cprl_y g layers e c) low_y high_y p h in
      let i = cprl_y_has c d.number p hc d.from d.has in
      (i.0, d.number, i.1)

  pub cprl_sorted : AllPairs (ComesBefore g Cprl) (cprl g layers e)
  cprl_sorted =
      nest (λ (p : PacketName). p.comp) (λ (p : PacketName). down_of g p ∷ across_of g p ∷ p.res ∷ p.layer ∷ []) (cprl_c g layers e) e.cs (comp_stop g e)
      (λ c hc hd p h. (cprl_c_has c p hd h).2.placed.comp)
      (λ c hc hd. nest (λ (p : PacketName). down_of g p) (λ (p : PacketName). across_of g p ∷ p.res ∷ p.layer ∷ []) (cprl_y g layers e c) low_y high_y
      (λ y hy hz p h. (cprl_y_has c y p hd hy h).1.placed.down)
      (λ y hy hz. nest (λ (p : PacketName). across_of g p) (λ (p : PacketName). p.res ∷ p.layer ∷ []) (acrosses_at c y) low_x high_x
      (λ x hx hw p h. (ress_has c y x p hd hy hx h).placed.across) (λ x hx hw. in_ress c y x hd hy hx)))

  pub cprl_has : (p : PacketName) → Contains (cprl g layers e) p → InLoops g layers e p
  cprl_has p h =
      let d : JoinedAt (cprl_c g layers e) e.cs (comp_stop g e) p = joined_has (cprl_c g layers e) e.cs (comp_stop g e) p h in
      let i = cprl_c_has d.number p d.below d.has in
      in_loops_at d.number i.2.res i.1 i.0 p i.2.placed i.2.res_from i.2.res_below d.from d.below

  pub cprl_from : (p : PacketName) → InLoops g layers e p → Contains (cprl g layers e) p
  cprl_from p i =
      let a = place_of_packet p i in
      let y = down_of g p in
      let x = across_of g p in
      joined_from (cprl_c g layers e) e.cs (comp_stop g e) p (record {
        number = p.comp;
        from = i.comp_from;
        below = i.comp_below;
        has =
            joined_from (cprl_y g layers e p.comp) low_y high_y p (record {
              number = y;
              from = a.down.from;
              below = a.down.below;
              has =
                  joined_from (acrosses_at p.comp y) low_x high_x p (record { number = x; from = a.across.from; below = a.across.below; has = ress_from p i });
            });
      })
