-- A component's shape, from its segments, is in range.
use Rattle.std.proofs.Common.{◌≡◌, ◌∙◌, ◌<◌, ◌≤◌, ◌+◌, ◌-◌, ◌/◌, ◌%◌, ◌==◌, ◌&&◌, ℕ, true, false, arith, List, [], ◌∷◌, length, drop, get_or, sym, ap, subst, nat_lt, nat_le, cond, slice_index}
use Rattle.std.specs.List.{All, list_all, list_any}
use Rattle.std.proofs.lemmas.Bool.Decides.{nat_tests}
use Rattle.std.proofs.lemmas.List.{get_or-drop, length-drop}
use Rattle.std.proofs.lemmas.List.FromFn.{get_or-map-range_with_len}
use Rattle.jx_marker.specs.declared.CompSize.{CompSize}
use Rattle.jx_marker.specs.declared.Siz.{Siz}
use Rattle.jx_marker.specs.declared.Shape.{Shape}
use Rattle.jx_marker.specs.Rules.{axis_fits, comp_size_fits, siz_fits, has_zero_exponent}
use Rattle.jx_marker.specs.Ranges as fits
use Rattle.jx_geom.specs.Ranges.{CanvasInRange, ShapeInRange}
use Rattle.jx_codestream.specs.declared.Params.{Params}
use Rattle.jx_codestream.specs.First.{canvas_of}
use Rattle.jx_codestream.specs.Params.{precinct_of, precincts_of}
use Rattle.jx_codestream.specs.Shapes.{shape_from}
use Rattle.jx_base.proofs.Lists.{all_pass, none_passes}
use Rattle.std.proofs.lemmas.Bool.{ltb-true, leb-true, or_parts, and_parts}

not_zero : (n : ℕ) → (n == 0) ≡ false → 0 < n
not_zero n h = grind (arith, nat_tests)

-- rule 4

record AxisFits (end begin tile first : ℕ) : Type 0 where
  pub some : 0 < tile
  pub offset : first ≤ begin
  pub holds : begin < end
  pub meets : begin < first + tile

axis : (end begin tile first : ℕ) → axis_fits end begin tile first ≡ true → AxisFits end begin tile first
axis end begin tile first h =
    let one = and_parts (nat_lt 0 tile) (nat_le first begin && (nat_lt begin end && nat_lt begin (first + tile))) h in
    let two = and_parts (nat_le first begin) (nat_lt begin end && nat_lt begin (first + tile)) one.1 in
    let three = and_parts (nat_lt begin end) (nat_lt begin (first + tile)) two.1 in
    record { some = ltb-true 0 tile one.0; offset = leb-true first begin two.0; holds = ltb-true begin end three.0; meets = ltb-true begin (first + tile) three.1 }

pub record SizFits (siz : Siz) : Type 0 where
  pub some : 1 ≤ length siz.comps
  pub few : length siz.comps ≤ 16384
  pub canvas : CanvasInRange (canvas_of siz)
  pub each : All (λ (comp : CompSize). comp_size_fits comp ≡ true) siz.comps

pub siz_is : (siz : Siz) → siz_fits siz ≡ true → SizFits siz
siz_is siz h =
    let across = axis_fits siz.x1 siz.x0 siz.tw siz.tx in
    let down = axis_fits siz.y1 siz.y0 siz.th siz.ty in
    let each = list_all comp_size_fits siz.comps in
    let one = and_parts (nat_lt 0 (length siz.comps)) (nat_le (length siz.comps) 16384 && (across && (down && each))) h in
    let two = and_parts (nat_le (length siz.comps) 16384) (across && (down && each)) one.1 in
    let three = and_parts across (down && each) two.1 in
    let four = and_parts down each three.1 in
    let x = axis siz.x1 siz.x0 siz.tw siz.tx three.0 in
    let y = axis siz.y1 siz.y0 siz.th siz.ty four.0 in
    record {
      some = ltb-true 0 (length siz.comps) one.0;
      few = leb-true (length siz.comps) 16384 two.0;
      canvas = record {
        wide = x.some;
        offset_across = x.offset;
        some_across = x.holds;
        first_across = x.meets;
        high = y.some;
        offset_down = y.offset;
        some_down = y.holds;
        first_down = y.meets;
      };
      each = all_pass comp_size_fits siz.comps four.1;
    }

record StepsFit (comp : CompSize) : Type 0 where
  pub across : 0 < comp.dx
  pub down : 0 < comp.dy

steps : (comp : CompSize) → comp_size_fits comp ≡ true → StepsFit comp
steps comp h =
    let one = and_parts (nat_le (comp.ssiz % 128 + 1) 38) (nat_lt 0 comp.dx && nat_lt 0 comp.dy) h in
    let two = and_parts (nat_lt 0 comp.dx) (nat_lt 0 comp.dy) one.1 in
    record { across = ltb-true 0 comp.dx two.0; down = ltb-true 0 comp.dy two.1 }

-- rules 6 and 8

byte_of : (bytes : List ℕ) (r : ℕ) → r < 33 → slice_index (precincts_of bytes) r ≡ precinct_of bytes r
byte_of bytes r inside = get_or-map-range_with_len (precinct_of bytes) 0 33 r r 0 inside (omega arith)

halves : (n : ℕ) → has_zero_exponent n ≡ false → (0 < n % 16) × (0 < n / 16)
halves n h = let e = or_parts (n % 16 == 0) (n / 16 == 0) h in (not_zero (n % 16) e.0, not_zero (n / 16) e.1)

counted : (n m : ℕ) → 0 < n → n ≡ (cond (n == 0) 0 m) → n ≡ m
counted n m some h = grind (arith, nat_tests)

byte_fits : (levels : ℕ) (bytes : List ℕ) → length bytes ≡ (cond (length bytes == 0) 0 (1 + levels)) → list_any has_zero_exponent (drop 1 bytes) ≡ false
    → (r : ℕ) → 0 < r → r ≤ levels → (0 < precinct_of bytes r % 16) × (0 < precinct_of bytes r / 16)
byte_fits levels [] count clear r some le = (omega arith, omega arith)
byte_fits levels (byte ∷ bytes) count clear r some le =
    let all = none_passes has_zero_exponent (drop 1 (byte ∷ bytes)) clear in
    let inside : r - 1 < length (drop 1 (byte ∷ bytes)) =
    omega (arith, counted (length (byte ∷ bytes)) (1 + levels) (omega arith) count, length-drop 1 (byte ∷ bytes)) in
    let at : 1 + (r - 1) ≡ r = omega arith in
    let P : ℕ → Type 0 = λ n. has_zero_exponent n ≡ false in
    halves (get_or (byte ∷ bytes) r 0) (subst P (get_or-drop 1 (byte ∷ bytes) (r - 1) 0 ∙ ap (λ (n : ℕ). get_or (byte ∷ bytes) n 0) at) (all (r - 1) 0 inside))

pub shape_fits : (size : CompSize) (p : Params) (shape : Shape) → comp_size_fits size ≡ true → fits.ShapeInRange shape
    → p.levels ≡ shape.levels → p.xcb ≡ shape.xcb → p.ycb ≡ shape.ycb → p.precincts ≡ precincts_of shape.precincts → ShapeInRange (shape_from size p)
shape_fits size p shape sized fit levels xcb ycb precincts = record {
  numbers = record {
    step_across = (steps size sized).across;
    step_down = (steps size sized).down;
    levels = omega (arith, fit.levels);
    block_across = omega (arith, fit.least_xcb);
    block_down = omega (arith, fit.least_ycb);
    block_wide = omega (arith, fit.xcb);
    block_high = omega (arith, fit.ycb);
    block_size = omega (arith, fit.area);
  };
  precincts = λ r some le.
      let inside : r < 33 = omega (arith, fit.levels) in
      let is : slice_index p.precincts r ≡ precinct_of shape.precincts r = ap (λ (x : List ℕ). slice_index x r) precincts ∙ byte_of shape.precincts r inside in
      let P : ℕ → Type 0 = λ n. (0 < n % 16) × (0 < n / 16) in
      subst P (sym is) (byte_fits shape.levels shape.precincts fit.count fit.above r some (omega arith));
}
