-- A key tells packets apart: where two precincts of a resolution stand in one place, they are one.
use Rattle.std.proofs.Common.{◌≡◌, ℕ, ◌+◌, ◌-◌, ◌*◌, ◌/◌, ◌^◌, ◌≤◌, ◌<◌, inl, inr, ◌⊎◌, sym, subst, arith, Ordering, nat_cmp, is_lt, false}
use Rattle.std.specs.Ordering.{ordering_then}
use Rattle.std.proofs.Math.Nat.{mul-le-mul_right, lt-div-mul-add, one-le-mul}
use Rattle.std.proofs.lemmas.Nat.{pow_pos}
use Rattle.std.proofs.lemmas.Bool.{cases_lt}
use Rattle.std.proofs.lemmas.Bool.Decides.{nat_tests}
use Rattle.jx_base.specs.declared.names.Rect.{Rect}
use Rattle.jx_base.specs.declared.names.Span.{Span}
use Rattle.jx_base.specs.Numbers.{ceil_of}
use Rattle.jx_base.specs.Places.{InSpan, column_at, row_at, size_of}
use Rattle.jx_base.proofs.Ceilings.{ceil_from}
use Rattle.jx_geom.specs.declared.shape.CompShape.{CompShape}
use Rattle.jx_geom.specs.Ranges.{ShapeInRange, exponent_across, exponent_down}
use Rattle.jx_geom.specs.Spans.{scaled, cells, reference_of}
use Rattle.jx_geom.specs.Rects.{component_rect, resolution_rect, precinct_cells, precinct_column_point, precinct_row_point}
use Rattle.jx_geom.specs.Geometry.{Geometry, GeometryInRange, HasResolution, precincts_in, reference_across, reference_down, rect_of_tile, shape_of}
use Rattle.jx_geom.proofs.SpanLemmas.{cells_low, reference_latest}
use Rattle.jx_progression.specs.declared.keys.Key.{Key}
use Rattle.jx_progression.specs.declared.names.PacketName.{PacketName}
use Rattle.jx_progression.specs.Orders.{IsLess, across_of, down_of}
use Rattle.jx_progression.specs.Packets.{IsPacketName}
use Rattle.jx_progression.specs.Steps.{numbers_of}
use Rattle.jx_base.proofs.Raster.{raster_in, raster_one}

-- a later cell begins past the start of what is scaled
later_start : (start first second size low v : ℕ) → 0 < first → 0 < second → 0 < size → start ≤ low * second * first → low / size < v
    → start < v * (size * (second * first))
later_start start first second size low v hf hs hz from lt =
    let near : low < low / size * size + size = lt-div-mul-add hz in
    let next : low / size + 1 ≤ v = omega arith in
    let cell : (low / size + 1) * size ≤ v * size = mul-le-mul_right size next in
    let reach : low + 1 ≤ v * size = omega arith in
    let some : 0 < second * first = one-le-mul hs hf in
    let wide : (low + 1) * (second * first) ≤ v * size * (second * first) = mul-le-mul_right (second * first) reach in
    omega arith

scaled_start : (s : Span) (first second : ℕ) → 0 < first → 0 < second → s.low ≤ (scaled (scaled s first) second).low * second * first
unfolding scaled
scaled_start s first second hf hs =
    let outer : ceil_of s.low first ≤ ceil_of (ceil_of s.low first) second * second =
    ceil_from (ceil_of s.low first) second (ceil_of (ceil_of s.low first) second) hs (omega arith) in
    ceil_from s.low first (ceil_of (ceil_of s.low first) second * second) hf outer

pub reference_grows : (s : Span) (first second size u v : ℕ) → 0 < first → 0 < second → 0 < size
    → InSpan (cells (scaled (scaled s first) second) size) u → InSpan (cells (scaled (scaled s first) second) size) v → u < v
    → reference_of s.low (scaled (scaled s first) second).low size (second * first) u < reference_of s.low (scaled (scaled s first) second).low size (second * first) v
reference_grows s first second size u v hf hs hz hu hv lt =
    let eu = reference_latest s first second size u hf hs hz hu in
    let ev = reference_latest s first second size v hf hs hz hv in
    let from : (scaled (scaled s first) second).low / size ≤ u = rw (cells_low (scaled (scaled s first) second) size) at hu.from in
    let start : s.low < v * (size * (second * first)) =
    later_start s.low first second size (scaled (scaled s first) second).low v hf hs hz (scaled_start s first second hf hs) (omega arith) in
    let some : 0 < size * (second * first) = one-le-mul hz (one-le-mul hs hf) in
    let next : u + 1 ≤ v = omega arith in
    let step : (u + 1) * (size * (second * first)) ≤ v * (size * (second * first)) = mul-le-mul_right (size * (second * first)) next in
    rw (eu, ev) (omega arith)

column_grows : (tile : Rect) (s : CompShape) (r u v : ℕ) → ShapeInRange s → InSpan (precinct_cells tile s r).x u → InSpan (precinct_cells tile s r).x v → u < v
    → precinct_column_point tile s r u < precinct_column_point tile s r v
unfolding component_rect resolution_rect precinct_cells precinct_column_point
column_grows tile s r u v h hu hv lt =
    reference_grows tile.x s.dx (2 ^ (s.levels - r)) (2 ^ exponent_across s r) u v h.numbers.step_across (pow_pos (s.levels - r)) (pow_pos (exponent_across s r)) hu hv lt

row_grows : (tile : Rect) (s : CompShape) (r u v : ℕ) → ShapeInRange s → InSpan (precinct_cells tile s r).y u → InSpan (precinct_cells tile s r).y v → u < v
    → precinct_row_point tile s r u < precinct_row_point tile s r v
unfolding component_rect resolution_rect precinct_cells precinct_row_point
row_grows tile s r u v h hu hv lt =
    reference_grows tile.y s.dy (2 ^ (s.levels - r)) (2 ^ exponent_down s r) u v h.numbers.step_down (pow_pos (s.levels - r)) (pow_pos (exponent_down s r)) hu hv lt

column_one : (tile : Rect) (s : CompShape) (r u v : ℕ) → ShapeInRange s → InSpan (precinct_cells tile s r).x u → InSpan (precinct_cells tile s r).x v
    → precinct_column_point tile s r u ≡ precinct_column_point tile s r v → u ≡ v
column_one tile s r u v h hu hv e = elim (cases_lt u v) [
  | inl lt ↦ absurd (omega (arith, column_grows tile s r u v h hu hv lt))
  | inr ge ↦ elim (cases_lt v u) [
    | inl gt ↦ absurd (omega (arith, column_grows tile s r v u h hv hu gt))
    | inr le ↦ omega arith
  ]
]

row_one : (tile : Rect) (s : CompShape) (r u v : ℕ) → ShapeInRange s → InSpan (precinct_cells tile s r).y u → InSpan (precinct_cells tile s r).y v
    → precinct_row_point tile s r u ≡ precinct_row_point tile s r v → u ≡ v
row_one tile s r u v h hu hv e = elim (cases_lt u v) [
  | inl lt ↦ absurd (omega (arith, row_grows tile s r u v h hu hv lt))
  | inr ge ↦ elim (cases_lt v u) [
    | inl gt ↦ absurd (omega (arith, row_grows tile s r v u h hv hu gt))
    | inr le ↦ omega arith
  ]
]

pub one_place : (g : Geometry) (c r m n : ℕ) → GeometryInRange g → HasResolution g c r → m < size_of (precincts_in g c r) → n < size_of (precincts_in g c r)
    → reference_across g c r m ≡ reference_across g c r n → reference_down g c r m ≡ reference_down g c r n → m ≡ n
one_place g c r m n range h hm hn across down =
    let s = range.shapes c h.component in
    let im = raster_in (precincts_in g c r) m hm in
    let in_n = raster_in (precincts_in g c r) n hn in
    raster_one (precincts_in g c r) m n
    (column_one (rect_of_tile g) (shape_of g c) r (column_at (precincts_in g c r) m) (column_at (precincts_in g c r) n) s im.across in_n.across across)
    (row_one (rect_of_tile g) (shape_of g c) r (row_at (precincts_in g c r) m) (row_at (precincts_in g c r) n) s im.down in_n.down down)

-- the same with names of the component and resolution that are equal
pub same_place : (g : Geometry) (layers : ℕ) (p q : PacketName) → GeometryInRange g → IsPacketName g layers p → IsPacketName g layers q
    → p.comp ≡ q.comp → p.res ≡ q.res → across_of g p ≡ across_of g q → down_of g p ≡ down_of g q → p.precinct ≡ q.precinct
same_place g layers p q range hp hq ec er across down =
    let A : ℕ → ℕ → Type 0 = λ c r. reference_across g p.comp p.res p.precinct ≡ reference_across g c r q.precinct in
    let D : ℕ → ℕ → Type 0 = λ c r. reference_down g p.comp p.res p.precinct ≡ reference_down g c r q.precinct in
    let K : ℕ → ℕ → Type 0 = λ c r. q.precinct < size_of (precincts_in g c r) in
    let move : (P : ℕ → ℕ → Type 0) → P q.comp q.res → P p.comp p.res = λ P h.
    (let Q : ℕ → Type 0 = λ c. P c q.res in
    let R : ℕ → Type 0 = λ r. P p.comp r in
    subst R (sym er) (subst Q (sym ec) h)) in
    one_place g p.comp p.res p.precinct q.precinct range hp.resolution hp.precinct (move K hq.precinct) (move A across) (move D down)

-- ---- what a comparison field by field says
pub then_not_lt : (a b : ℕ) (p : Ordering) → is_lt (ordering_then (nat_cmp a b) p) ≡ false → (b < a) ⊎ ((a ≡ b) × (is_lt p ≡ false))
then_not_lt a b p h = grind (arith, nat_tests)

-- b isn't before a
pub not_before : (a b : Key)
    → is_lt (ordering_then (nat_cmp b.first a.first) (ordering_then (nat_cmp b.second a.second) (ordering_then (nat_cmp b.third a.third) (nat_cmp b.fourth a.fourth)))) ≡ false
    → IsLess (numbers_of a) (numbers_of b) ⊎ (numbers_of a ≡ numbers_of b)
not_before a b h = elim (then_not_lt b.first a.first _ h) [
  | inl lt ↦ inl (inl lt)
  | inr one ↦ elim (then_not_lt b.second a.second _ one.1) [
    | inl lt ↦ inl (inr (sym one.0, inl lt))
    | inr two ↦ elim (then_not_lt b.third a.third _ two.1) [
      | inl lt ↦ inl (inr (sym one.0, inr (sym two.0, inl lt)))
      | inr three ↦
          let last : a.fourth ≤ b.fourth = (let t = three.1 in grind (arith, nat_tests)) in
          elim (cases_lt a.fourth b.fourth) [
            | inl lt ↦ inl (inr (sym one.0, inr (sym two.0, inr (sym three.0, inl lt))))
            | inr ge ↦
                let e1 : a.first ≡ b.first = sym one.0 in
                let e2 : a.second ≡ b.second = sym two.0 in
                let e3 : a.third ≡ b.third = sym three.0 in
                let e4 : a.fourth ≡ b.fourth = omega arith in
                inr (cc)
          ]
    ]
  ]
]
