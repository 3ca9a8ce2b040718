-- The places at which a resolution's precincts begin, and these precincts.
use Rattle.std.proofs.Common.{◌≡◌, ℕ, ◌-◌, ◌≤◌, ◌<◌, true, ◌&&◌, nat_le, nat_lt, length, arith, ap, sym, subst, ◌∙◌}
use Rattle.std.proofs.lemmas.Bool.Decides.{nat_tests}
use Rattle.std.proofs.lemmas.Bool.{and_from, and_parts, le-leb, leb-true}
use Rattle.jx_base.specs.declared.names.Rect.{Rect}
use Rattle.jx_base.specs.declared.names.Span.{Span}
use Rattle.jx_base.specs.Places.{InSpan, InRect, column_at, row_at, number_at, size_of}
use Rattle.jx_base.proofs.Raster.{raster_in, raster_one, number_column, number_row, number_below}
use Rattle.jx_geom.specs.declared.shape.CompShape.{CompShape}
use Rattle.jx_geom.specs.Ranges.{ShapeInRange, exponent_across, exponent_down}
use Rattle.jx_geom.specs.Rects.{component_rect, resolution_rect, precinct_cells, precinct_column_point, precinct_row_point}
use Rattle.jx_geom.specs.Geometry.{Geometry, GeometryInRange, HasResolution, precincts_in, reference_across, reference_down, rect_of_tile, shape_of}
use Rattle.jx_progression.specs.Loops.{begins_at, cell_of, is_in, precinct_column, precinct_row, is_column, is_row, is_visited, precinct_at}
use Rattle.jx_progression.proofs.BeginLemmas.{stands, stands_back}

-- ---- in one direction
record Stood (s : Span) (low step up pp u x : ℕ) : Type 0 where
  pub inside : InSpan s x
  pub begins : begins_at s.low low step up pp x ≡ true
  pub cell : cell_of step up pp x ≡ u

column_stands : (tile : Rect) (s : CompShape) (r u : ℕ) → ShapeInRange s → InSpan (precinct_cells tile s r).x u
    → Stood tile.x (resolution_rect tile s r).x.low s.dx (s.levels - r) (exponent_across s r) u (precinct_column_point tile s r u)
unfolding component_rect resolution_rect precinct_cells precinct_column_point
column_stands tile s r u h i =
    let t = stands tile.x s.dx (s.levels - r) (exponent_across s r) h.numbers.step_across u i in
    record { inside = t.inside; begins = t.begins; cell = t.cell }

row_stands : (tile : Rect) (s : CompShape) (r u : ℕ) → ShapeInRange s → InSpan (precinct_cells tile s r).y u
    → Stood tile.y (resolution_rect tile s r).y.low s.dy (s.levels - r) (exponent_down s r) u (precinct_row_point tile s r u)
unfolding component_rect resolution_rect precinct_cells precinct_row_point
row_stands tile s r u h i =
    let t = stands tile.y s.dy (s.levels - r) (exponent_down s r) h.numbers.step_down u i in
    record { inside = t.inside; begins = t.begins; cell = t.cell }

column_back : (tile : Rect) (s : CompShape) (r x : ℕ) → ShapeInRange s → tile.x.low ≤ x → begins_at tile.x.low (resolution_rect tile s r).x.low s.dx (s.levels - r) (exponent_across s r) x ≡ true
    → InSpan (precinct_cells tile s r).x (cell_of s.dx (s.levels - r) (exponent_across s r) x)
    → precinct_column_point tile s r (cell_of s.dx (s.levels - r) (exponent_across s r) x) ≡ x
unfolding component_rect resolution_rect precinct_cells precinct_column_point
column_back tile s r x h from b i = stands_back tile.x s.dx (s.levels - r) (exponent_across s r) h.numbers.step_across x from b i

row_back : (tile : Rect) (s : CompShape) (r x : ℕ) → ShapeInRange s → tile.y.low ≤ x → begins_at tile.y.low (resolution_rect tile s r).y.low s.dy (s.levels - r) (exponent_down s r) x ≡ true
    → InSpan (precinct_cells tile s r).y (cell_of s.dy (s.levels - r) (exponent_down s r) x)
    → precinct_row_point tile s r (cell_of s.dy (s.levels - r) (exponent_down s r) x) ≡ x
unfolding component_rect resolution_rect precinct_cells precinct_row_point
row_back tile s r x h from b i = stands_back tile.y s.dy (s.levels - r) (exponent_down s r) h.numbers.step_down x from b i

-- ---- tests
in_to : (s : Span) (n : ℕ) → is_in s n ≡ true → InSpan s n
in_to s n h =
    let b = and_parts (nat_le s.low n) (nat_lt n s.high) h in
    let test : nat_lt n s.high ≡ true = b.1 in
    record { from = leb-true s.low n b.0; below = grind (arith, nat_tests) }

in_from : (s : Span) (n : ℕ) → InSpan s n → is_in s n ≡ true
in_from s n i =
    let below : n < s.high = i.below in
    let test : nat_lt n s.high ≡ true = grind (arith, nat_tests) in
    and_from (nat_le s.low n) (nat_lt n s.high) (le-leb s.low n i.from) test

-- ---- in both
-- a precinct begins at the place that is visited
pub record AtPlace (g : Geometry) (c r y x : ℕ) : Type 0 where
  pub resolution : HasResolution g c r
  pub precinct : precinct_at g c r y x < size_of (precincts_in g c r)
  pub across : reference_across g c r (precinct_at g c r y x) ≡ x
  pub down : reference_down g c r (precinct_at g c r y x) ≡ y

pub visited_at : (g : Geometry) (c r y x : ℕ) → GeometryInRange g → c < length g.shapes → (rect_of_tile g).y.low ≤ y → (rect_of_tile g).x.low ≤ x → is_visited g c r y x ≡ true → AtPlace g c r y x
unfolding is_visited precinct_at
visited_at g c r y x range hc hy hx h =
    let s = range.shapes c hc in
    let b = and_parts (nat_le r (shape_of g c).levels) (is_row g c r y && is_column g c r x) h in
    let d = and_parts (is_row g c r y) (is_column g c r x) b.1 in
    let down = and_parts (begins_at (rect_of_tile g).y.low (resolution_rect (rect_of_tile g) (shape_of g c) r).y.low (shape_of g c).dy ((shape_of g c).levels - r) (exponent_down (shape_of g c) r) y)
    (is_in (precincts_in g c r).y (precinct_row g c r y)) d.0 in
    let across = and_parts (begins_at (rect_of_tile g).x.low (resolution_rect (rect_of_tile g) (shape_of g c) r).x.low (shape_of g c).dx ((shape_of g c).levels - r) (exponent_across (shape_of g c) r) x)
    (is_in (precincts_in g c r).x (precinct_column g c r x)) d.1 in
    let iy = in_to (precincts_in g c r).y (precinct_row g c r y) down.1 in
    let ix = in_to (precincts_in g c r).x (precinct_column g c r x) across.1 in
    let i : InRect (precincts_in g c r) (precinct_column g c r x) (precinct_row g c r y) = record { across = ix; down = iy } in
    record {
      resolution = record { component = hc; level = leb-true r (shape_of g c).levels b.0 };
      precinct = number_below (precincts_in g c r) (precinct_column g c r x) (precinct_row g c r y) i;
      across = ap (λ (u : ℕ). precinct_column_point (rect_of_tile g) (shape_of g c) r u) (number_column (precincts_in g c r) (precinct_column g c r x) (precinct_row g c r y) i)
          ∙ column_back (rect_of_tile g) (shape_of g c) r x s hx across.0 ix;
      down = ap (λ (u : ℕ). precinct_row_point (rect_of_tile g) (shape_of g c) r u) (number_row (precincts_in g c r) (precinct_column g c r x) (precinct_row g c r y) i)
          ∙ row_back (rect_of_tile g) (shape_of g c) r y s hy down.0 iy;
    }

-- each precinct's place is in the tile, and is visited
pub record IsAt (g : Geometry) (c r k y x : ℕ) : Type 0 where
  pub down : InSpan (rect_of_tile g).y y
  pub across : InSpan (rect_of_tile g).x x
  pub visited : is_visited g c r y x ≡ true
  pub precinct : precinct_at g c r y x ≡ k

pub at_place : (g : Geometry) (c r k : ℕ) → GeometryInRange g → HasResolution g c r → k < size_of (precincts_in g c r) → IsAt g c r k (reference_down g c r k) (reference_across g c r k)
unfolding is_visited precinct_at
at_place g c r k range has lt =
    let s = range.shapes c has.component in
    let all = precincts_in g c r in
    let i : InRect all (column_at all k) (row_at all k) = raster_in all k lt in
    let x = reference_across g c r k in
    let y = reference_down g c r k in
    let u = column_stands (rect_of_tile g) (shape_of g c) r (column_at all k) s i.across in
    let v = row_stands (rect_of_tile g) (shape_of g c) r (row_at all k) s i.down in
    let eu : precinct_column g c r x ≡ column_at all k = u.cell in
    let ev : precinct_row g c r y ≡ row_at all k = v.cell in
    let inside : InRect all (precinct_column g c r x) (precinct_row g c r y) = record {
      across = subst (λ (n : ℕ). InSpan all.x n) (sym eu) i.across;
      down = subst (λ (n : ℕ). InSpan all.y n) (sym ev) i.down;
    } in
    let row : is_row g c r y ≡ true = and_from
    (begins_at (rect_of_tile g).y.low (resolution_rect (rect_of_tile g) (shape_of g c) r).y.low (shape_of g c).dy ((shape_of g c).levels - r) (exponent_down (shape_of g c) r) y)
    (is_in all.y (precinct_row g c r y)) v.begins (in_from all.y (precinct_row g c r y) inside.down) in
    let column : is_column g c r x ≡ true = and_from
    (begins_at (rect_of_tile g).x.low (resolution_rect (rect_of_tile g) (shape_of g c) r).x.low (shape_of g c).dx ((shape_of g c).levels - r) (exponent_across (shape_of g c) r) x)
    (is_in all.x (precinct_column g c r x)) u.begins (in_from all.x (precinct_column g c r x) inside.across) in
    record {
      down = v.inside;
      across = u.inside;
      visited = and_from (nat_le r (shape_of g c).levels) (is_row g c r y && is_column g c r x) (le-leb r (shape_of g c).levels has.level) (and_from (is_row g c r y) (is_column g c r x) row column);
      precinct = raster_one all (number_at all (precinct_column g c r x) (precinct_row g c r y)) k
          (number_column all (precinct_column g c r x) (precinct_row g c r y) inside ∙ eu) (number_row all (precinct_column g c r x) (precinct_row g c r y) inside ∙ ev);
    }
