-- The five progression orders as the standard's loops (ITU-T T.800, B.12.1.1 to B.12.1.5): each loop is the lists of the numbers
-- that it runs through, joined. A progression entry bounds the loops (A.6.6), and what was sent before is left out (B.12.2).
use Rattle.std.specs.Prelude.{ℕ, zero, suc, ◌+◌, ◌-◌, ◌*◌, ◌/◌, ◌%◌, ◌^◌, ◌==◌, min, nat_le, nat_lt, Bool, false, ◌&&◌, ◌||◌, not, List, [], ◌∷◌, ◌++◌, length, if◌then◌else◌}
use Rattle.std.specs.List.{filter}
use Rattle.jx_base.specs.declared.names.Span.{Span}
use Rattle.jx_base.specs.Joined.{joined}
use Rattle.jx_base.specs.Numbers.{ceil_of}
use Rattle.jx_base.specs.Places.{number_at, size_of}
use Rattle.jx_geom.specs.Ranges.{exponent_across, exponent_down}
use Rattle.jx_geom.specs.Rects.{resolution_rect}
use Rattle.jx_geom.specs.Geometry.{Geometry, precincts_in, rect_of_tile, shape_of}
use Rattle.jx_marker.specs.declared.Progression.{Progression}
use Rattle.jx_progression.specs.declared.names.PacketName.{PacketName}
use Rattle.jx_progression.specs.declared.keys.Order.{Order}
use Rattle.jx_progression.specs.declared.keys.Order.TheVariants.{Lrcp, Rlcp, Rpcl, Pcrl, Cprl}
use Rattle.jx_progression.specs.Orders.{order_of}
use Rattle.jx_progression.specs.Packets.{entry_at}
use Rattle.jx_progression.specs.Steps.{name_of}

-- ---- the ends of the loops: of the layers, of the components, and of the precincts of a resolution that a component may lack
abbrev pub layer_stop : ℕ → Progression → ℕ
layer_stop layers e = min e.lye layers

abbrev pub comp_stop : Geometry → Progression → ℕ
comp_stop g e = if e.ce == 0 then length g.shapes else min e.ce (length g.shapes)

abbrev pub precincts_of : Geometry → ℕ → ℕ → ℕ
precincts_of g c r = if nat_le r (shape_of g c).levels then size_of (precincts_in g c r) else 0

abbrev pub one_packet : ℕ → ℕ → ℕ → ℕ → List PacketName
one_packet l r c k = name_of l r c k ∷ []

-- ---- B.12.1.1 and B.12.1.2: for each component and each precinct, in a layer of a resolution
abbrev pub precincts_loop : Geometry → ℕ → ℕ → ℕ → List PacketName
precincts_loop g l r c = joined (one_packet l r c) 0 (precincts_of g c r)

abbrev pub comps_loop : Geometry → Progression → ℕ → ℕ → List PacketName
comps_loop g e l r = joined (precincts_loop g l r) e.cs (comp_stop g e)

-- for each layer, for each resolution
abbrev pub lrcp_loop : Geometry → Progression → ℕ → List PacketName
lrcp_loop g e l = joined (comps_loop g e l) e.rs e.re

abbrev pub lrcp : Geometry → ℕ → Progression → List PacketName
lrcp g layers e = joined (lrcp_loop g e) 0 (layer_stop layers e)

-- for each resolution, for each layer
abbrev pub rlcp_loop : Geometry → ℕ → Progression → ℕ → List PacketName
rlcp_loop g layers e r = joined (λ (l : ℕ). comps_loop g e l r) 0 (layer_stop layers e)

abbrev pub rlcp : Geometry → ℕ → Progression → List PacketName
rlcp g layers e = joined (rlcp_loop g layers e) e.rs e.re

-- ---- B.12.1.3 to B.12.1.5: places of the reference grid
-- Whether a precinct row or column begins at a place: it is divisible by the step of the component times 2 ^ (PP + NL - r);
-- or it is the tile's first place, and the resolution's first place times 2 ^ (NL - r) isn't divisible by 2 ^ (PP + NL - r).
unfoldable pub begins_at : (start low step up pp x : ℕ) → Bool
begins_at start low step up pp x = (x % (step * 2 ^ (pp + up)) == 0) || ((x == start) && not (low * 2 ^ up % 2 ^ (pp + up) == 0))

-- the row or column of precincts in which a place of the reference grid lies
unfoldable pub cell_of : (step up pp x : ℕ) → ℕ
cell_of step up pp x = ceil_of (ceil_of x step) (2 ^ up) / 2 ^ pp

abbrev pub is_in : Span → ℕ → Bool
is_in s n = nat_le s.low n && nat_lt n s.high

abbrev pub precinct_column : Geometry → ℕ → ℕ → ℕ → ℕ
precinct_column g c r x = cell_of (shape_of g c).dx ((shape_of g c).levels - r) (exponent_across (shape_of g c) r) x

abbrev pub precinct_row : Geometry → ℕ → ℕ → ℕ → ℕ
precinct_row g c r y = cell_of (shape_of g c).dy ((shape_of g c).levels - r) (exponent_down (shape_of g c) r) y

abbrev pub is_column : Geometry → ℕ → ℕ → ℕ → Bool
is_column g c r x =
    begins_at (rect_of_tile g).x.low (resolution_rect (rect_of_tile g) (shape_of g c) r).x.low (shape_of g c).dx ((shape_of g c).levels - r) (exponent_across (shape_of g c) r) x
    && is_in (precincts_in g c r).x (precinct_column g c r x)

abbrev pub is_row : Geometry → ℕ → ℕ → ℕ → Bool
is_row g c r y =
    begins_at (rect_of_tile g).y.low (resolution_rect (rect_of_tile g) (shape_of g c) r).y.low (shape_of g c).dy ((shape_of g c).levels - r) (exponent_down (shape_of g c) r) y
    && is_in (precincts_in g c r).y (precinct_row g c r y)

-- a precinct of the resolution begins at the place, and its number
unfoldable pub is_visited : Geometry → ℕ → ℕ → ℕ → ℕ → Bool
is_visited g c r y x = nat_le r (shape_of g c).levels && (is_row g c r y && is_column g c r x)

unfoldable pub precinct_at : Geometry → ℕ → ℕ → ℕ → ℕ → ℕ
precinct_at g c r y x = number_at (precincts_in g c r) (precinct_column g c r x) (precinct_row g c r y)

-- if so, for each layer
abbrev pub place_loop : Geometry → ℕ → Progression → ℕ → ℕ → ℕ → ℕ → List PacketName
place_loop g layers e c r y x =
    if is_visited g c r y x then joined (λ (l : ℕ). one_packet l r c (precinct_at g c r y x)) 0 (layer_stop layers e) else []

-- for each number of places down, and across
abbrev pub downs : Geometry → (ℕ → List PacketName) → List PacketName
downs g f = joined f (rect_of_tile g).y.low (rect_of_tile g).y.high

abbrev pub acrosses : Geometry → (ℕ → List PacketName) → List PacketName
acrosses g f = joined f (rect_of_tile g).x.low (rect_of_tile g).x.high

-- B.12.1.3: for each resolution, for each y, for each x, for each component
abbrev pub rpcl_x : Geometry → ℕ → Progression → ℕ → ℕ → ℕ → List PacketName
rpcl_x g layers e r y x = joined (λ (c : ℕ). place_loop g layers e c r y x) e.cs (comp_stop g e)

abbrev pub rpcl_y : Geometry → ℕ → Progression → ℕ → ℕ → List PacketName
rpcl_y g layers e r y = acrosses g (rpcl_x g layers e r y)

abbrev pub rpcl_r : Geometry → ℕ → Progression → ℕ → List PacketName
rpcl_r g layers e r = downs g (rpcl_y g layers e r)

abbrev pub rpcl : Geometry → ℕ → Progression → List PacketName
rpcl g layers e = joined (rpcl_r g layers e) e.rs e.re

-- B.12.1.4: for each y, for each x, for each component, for each resolution
abbrev pub ress_loop : Geometry → ℕ → Progression → ℕ → ℕ → ℕ → List PacketName
ress_loop g layers e y x c = joined (λ (r : ℕ). place_loop g layers e c r y x) e.rs e.re

abbrev pub pcrl_x : Geometry → ℕ → Progression → ℕ → ℕ → List PacketName
pcrl_x g layers e y x = joined (ress_loop g layers e y x) e.cs (comp_stop g e)

abbrev pub pcrl_y : Geometry → ℕ → Progression → ℕ → List PacketName
pcrl_y g layers e y = acrosses g (pcrl_x g layers e y)

abbrev pub pcrl : Geometry → ℕ → Progression → List PacketName
pcrl g layers e = downs g (pcrl_y g layers e)

-- B.12.1.5: for each component, for each y, for each x, for each resolution
abbrev pub cprl_y : Geometry → ℕ → Progression → ℕ → ℕ → List PacketName
cprl_y g layers e c y = acrosses g (λ (x : ℕ). ress_loop g layers e y x c)

abbrev pub cprl_c : Geometry → ℕ → Progression → ℕ → List PacketName
cprl_c g layers e c = downs g (cprl_y g layers e c)

abbrev pub cprl : Geometry → ℕ → Progression → List PacketName
cprl g layers e = joined (cprl_c g layers e) e.cs (comp_stop g e)

-- ---- what an entry runs through, and the list of all entries without what was sent before
abbrev pub loops : Geometry → ℕ → Progression → Order → List PacketName
loops g layers e Lrcp = lrcp g layers e
loops g layers e Rlcp = rlcp g layers e
loops g layers e Rpcl = rpcl g layers e
loops g layers e Pcrl = pcrl g layers e
loops g layers e Cprl = cprl g layers e

abbrev pub is_same : PacketName → PacketName → Bool
is_same p q = (p.layer == q.layer) && ((p.res == q.res) && ((p.comp == q.comp) && (p.precinct == q.precinct)))

abbrev pub was_sent : List PacketName → PacketName → Bool
was_sent [] p = false
was_sent (q ∷ before) p = is_same q p || was_sent before p

abbrev pub sent_by : Geometry → ℕ → Progression → List PacketName → List PacketName
sent_by g layers e before = filter (λ (p : PacketName). not (was_sent before p)) (loops g layers e (order_of e.order))

abbrev pub all_loops : Geometry → ℕ → List Progression → ℕ → List PacketName
all_loops g layers entries zero = []
all_loops g layers entries (suc n) = all_loops g layers entries n ++ sent_by g layers (entry_at entries n) (all_loops g layers entries n)
