-- The packets of one layer in the order RPCL: resolution by resolution, in each component by component; and how many code-blocks each has.
use Rattle.std.proofs.Common.{◌≡◌, ◌∙◌, ℕ, ◌≤◌, ◌<◌, [], ◌∷◌, refl, sym, ap, subst, arith, inl, inr}
use Rattle.std.specs.List.{AllPairs, Contains}
use Rattle.std.proofs.lemmas.List.Elements.{Contains-get_or}
use Rattle.jx_base.proofs.Joined.{joined_from, joined_pairs}
use Rattle.jx_base.proofs.Lists.{contains_head, contains_none}
use Rattle.jx_geom.specs.declared.shape.CompShape.{CompShape}
use Rattle.jx_geom.specs.Geometry.{Geometry, rect_of_tile, reference_across, reference_down, shape_of}
use Rattle.jx_base.specs.Places.{column_at, row_at}
use Rattle.jx_geom.specs.Rects.{precinct_cells, precinct_column_point, precinct_row_point}
use Rattle.jx_progression.specs.declared.names.PacketName.{PacketName}
use Rattle.jx_progression.specs.Orders.{ComesBefore, order_of}
use Rattle.jx_progression.specs.Packets.{Covers, IsOrder, IsPacketName}
use Rattle.jx_progression.specs.Steps.{name_of}
use Rattle.jx_progression.proofs.OrderLemmas.{same_fields}
use Rattle.jx_generate.specs.Headers.{AreSizes, geometry_made}
use Rattle.jx_generate.specs.Packets.{layer_names, one_name, resolution_names}
use Rattle.jx_generate.specs.OneLayer.{entry_of_layers}
use Rattle.jx_generate.proofs.GeometryLemmas.{level_5, precincts_made, resolution_there, shape_at, three_shapes}
use Rattle.jx_generate.proofs.OrderLemmas.{from_layer, from_resolution, one_of, single}

-- ---- the three components are alike
alike : (w h c d : ℕ) → c < 3 → d < 3 → shape_of (geometry_made w h) c ≡ shape_of (geometry_made w h) d
unfolding geometry_made
alike w h c d lc ld = shape_at c lc ∙ sym (shape_at d ld)

same_down : (w h c d r : ℕ) → c < 3 → d < 3 → reference_down (geometry_made w h) c r 0 ≡ reference_down (geometry_made w h) d r 0
same_down w h c d r lc ld =
    ap (λ (s : CompShape). precinct_row_point (rect_of_tile (geometry_made w h)) s r (row_at (precinct_cells (rect_of_tile (geometry_made w h)) s r) 0)) (alike w h c d lc ld)

same_across : (w h c d r : ℕ) → c < 3 → d < 3 → reference_across (geometry_made w h) c r 0 ≡ reference_across (geometry_made w h) d r 0
same_across w h c d r lc ld =
    ap (λ (s : CompShape). precinct_column_point (rect_of_tile (geometry_made w h)) s r (column_at (precinct_cells (rect_of_tile (geometry_made w h)) s r) 0)) (alike w h c d lc ld)

-- ---- their order
abbrev Follows : Geometry → PacketName → PacketName → Type 0
Follows g p q = p.comp < 3 → q.comp < 3 → ComesBefore g (order_of 2) p q

resolution_follows : (w h r : ℕ) → AllPairs (Follows (geometry_made w h)) (resolution_names 0 r)
unfolding resolution_names
resolution_follows w h r =
    let P : PacketName → PacketName → Type 0 = λ a b. Follows (geometry_made w h) a b in
    joined_pairs P (one_name 0 r) 0 3 (λ c. single P (name_of 0 r c 0))
    (λ c d x y lt hx hy.
    subst (λ (a : PacketName). P a y) (one_of (name_of 0 r c 0) x hx)
    (subst (λ (b : PacketName). P (name_of 0 r c 0) b) (one_of (name_of 0 r d 0) y hy)
    (λ lc ld. inr (refl, inr (same_down w h c d r lc ld, inr (same_across w h c d r lc ld, inl lt))))))

layer_follows : (w h : ℕ) → AllPairs (Follows (geometry_made w h)) (layer_names 0)
unfolding layer_names
layer_follows w h =
    let P : PacketName → PacketName → Type 0 = λ a b. Follows (geometry_made w h) a b in
    joined_pairs P (resolution_names 0) 0 6 (λ r. resolution_follows w h r)
    (λ r q x y lt hx hy. (let a = from_resolution 0 r x hx in let b = from_resolution 0 q y hy in λ lc ld. inl (omega (arith, a.1, b.1))))

layer_sorted : (w h : ℕ) → AllPairs (ComesBefore (geometry_made w h) (order_of 2)) (layer_names 0)
layer_sorted w h i j d lt below =
    let first = from_layer 0 _ (Contains-get_or (layer_names 0) i d (omega arith)) in
    let second = from_layer 0 _ (Contains-get_or (layer_names 0) j d below) in
    layer_follows w h i j d lt below first.2 second.2

-- ---- just the packets of the tile
to_layer : (r c : ℕ) → r < 6 → c < 3 → Contains (layer_names 0) (name_of 0 r c 0)
unfolding layer_names resolution_names
to_layer r c hr hc =
    let p : PacketName = name_of 0 r c 0 in
    let one : Contains (resolution_names 0 r) p = joined_from (one_name 0 r) 0 3 p (record { number = c; from = omega arith; below = hc; has = contains_head p [] }) in
    joined_from (resolution_names 0) 0 6 p (record { number = r; from = omega arith; below = hr; has = one })

packet_from : (w h : ℕ) (p : PacketName) → AreSizes w h → Contains (layer_names 0) p → IsPacketName (geometry_made w h) 1 p
packet_from w h p sizes has =
    let f = from_layer 0 p has in
    record {
      layer = omega (arith, f.0);
      resolution = resolution_there w h p.comp p.res f.2 (omega (arith, f.1));
      precinct = omega (arith, f.3, precincts_made w h p.comp p.res sizes f.2 (omega (arith, f.1)));
    }

layer_exact : (w h : ℕ) (p : PacketName) → AreSizes w h → IsPacketName (geometry_made w h) 1 p → Contains (layer_names 0) p
layer_exact w h p sizes is =
    let comp : p.comp < 3 = three_shapes w h p.comp is.resolution.component in
    let level : p.res ≤ 5 = level_5 w h p.comp p.res comp is.resolution.level in
    let precinct : p.precinct ≡ 0 = omega (arith, is.precinct, precincts_made w h p.comp p.res sizes comp level) in
    let layer : 0 ≡ p.layer = omega (arith, is.layer) in
    let e : name_of 0 p.res p.comp 0 ≡ p = same_fields (name_of 0 p.res p.comp 0) p layer refl refl (sym precinct) in
    subst (λ (x : PacketName). Contains (layer_names 0) x) e (to_layer p.res p.comp (omega arith) comp)

covers : (p : PacketName) → p.layer < 1 → p.res < 6 → Covers (entry_of_layers 1) p
covers p layer res = record { layer = layer; res_from = omega arith; res_below = omega arith; comp_from = omega arith; comp_below = inl refl }

layer_covers : (w h : ℕ) (p : PacketName) → Contains (layer_names 0) p → Covers (entry_of_layers 1) p
layer_covers w h p has = let f = from_layer 0 p has in covers p (omega (arith, f.0)) f.1

pub layer_order : (w h : ℕ) → AreSizes w h → IsOrder (geometry_made w h) 1 (entry_of_layers 1 ∷ []) 1 (layer_names 0)
layer_order w h sizes = (
  0,
  refl,
  record {
    exact = λ p. (λ has. (packet_from w h p sizes has, layer_covers w h p has, λ none. contains_none p none), λ is. layer_exact w h p sizes is.0);
    sorted = layer_sorted w h;
  },
)
