-- The parameters that are left: d levels fewer, and each band's step and planes as they were.
use Rattle.std.proofs.Common.{◌≡◌, ◌∙◌, ℕ, suc, ◌+◌, ◌-◌, ◌/◌, ◌≤◌, ◌<◌, List, [], ◌∷◌, map, take, length, slice_index, refl, sym, ap, subst, arith, Option}
use Rattle.std.specs.Option.{option_map}
use Rattle.std.proofs.lemmas.List.{get_or-map, get_or-take, length-map}
use Rattle.std.proofs.lemmas.List.FromFn.{get_or-map-range_with_len}
use Rattle.jx_base.specs.declared.names.Band.{Band}
use Rattle.jx_base.specs.declared.names.Band.TheVariants.{LL, HL, LH, HH}
use Rattle.jx_marker.specs.declared.CompSize.{CompSize}
use Rattle.jx_marker.specs.declared.Segment.{Segment}
use Rattle.jx_marker.specs.declared.Shape.{Shape}
use Rattle.jx_marker.specs.declared.Quant.{Quant}
use Rattle.jx_marker.specs.declared.Cod.{Cod}
use Rattle.jx_geom.specs.declared.shape.CompShape.{CompShape}
use Rattle.jx_geom.specs.Ranges.{ShapeInRange}
use Rattle.jx_geom.specs.Geometry.{ShapesInRange, no_shape}
use Rattle.jx_codestream.specs.declared.Params.{Params}
use Rattle.jx_codestream.specs.declared.Stream.{Stream}
use Rattle.jx_codestream.specs.Params.{cod_of, cod_or, exponent_of, header_of, mantissa_of, number_of, params_by, params_from, params_of, planes_at, planes_by, planes_of, precinct_of, precincts_of, quant_of, quant_or, shape_at, shape_of, shape_or, shift_of, step_by, step_of}
use Rattle.jx_codestream.specs.Shapes.{layers_of, no_size, shape_in, shapes_of, size_of, style_of}
use Rattle.jx_codestream.proofs.RangeLemmas.{shapes_at, shapes_length}
use Rattle.jx_codestream.proofs.ShapeLemmas.{shape_fits, siz_is}
use Rattle.jx_plan.specs.Meaning.{component_of}
use Rattle.jx_plan.specs.Standing.{HeadersStand}
use Rattle.jx_plan.proofs.StreamLemmas.{shaped_at}
use Rattle.jx_reduce.specs.Left.{component_left}
use Rattle.jx_reduce.specs.Reduction.{cod_left, segment_left, shape_left, size_left, stream_left}
use Rattle.jx_reduce.proofs.HeaderLemmas.{IsClear, clear_header, cod_of_left, cod_or_left, header_left, levels_enough, quant_of_left, shape_of_left, shape_or_left, shift_of_left}
use Rattle.jx_reduce.proofs.LeftNames.{AreLower}
use Rattle.jx_reduce.proofs.LevelLemmas.{IsLower}
use Rattle.jx_reduce.proofs.StandLemmas.{exponent_left, planes_left}

-- ---- parameters by headers
from_options : (d : ℕ) (p q : Option Shape) (u v : Option Cod) (x y : Option Quant) (m n : ℕ) → p ≡ option_map (shape_left d) q → u ≡ option_map (cod_left d) v → x ≡ y → m ≡ n
    → params_from (shape_or p) (cod_or u) (quant_or x) m ≡ params_from (shape_left d (shape_or q)) (cod_left d (cod_or v)) (quant_or y) n
from_options d p q u v x y m n e h k l = rw (e, h, k, l, shape_or_left d q, cod_or_left d v) refl

abbrev shape_now : Stream → ℕ → ℕ → Shape
shape_now s t c = shape_or (shape_of (header_of s t) s.main c)

abbrev cod_now : Stream → ℕ → Cod
cod_now s t = cod_or (cod_of (header_of s t) s.main)

abbrev quant_now : Stream → ℕ → ℕ → Quant
quant_now s t c = quant_or (quant_of (header_of s t) s.main c)

abbrev shift_now : Stream → ℕ → ℕ → ℕ
shift_now s t c = shift_of (header_of s t) s.main c

params_are : (d : ℕ) (s : Stream) (t c : ℕ) → params_of (stream_left d s) t c ≡ params_from (shape_left d (shape_now s t c)) (cod_left d (cod_now s t)) (quant_now s t c) (shift_now s t c)
unfolding stream_left
params_are d s t c =
    ap (λ (own : List Segment). params_by own (map (segment_left d) s.main) c) (header_left d s t)
    ∙ from_options d _ (shape_of (header_of s t) s.main c) _ (cod_of (header_of s t) s.main) _ (quant_of (header_of s t) s.main c) _ (shift_of (header_of s t) s.main c)
    (shape_of_left d (header_of s t) s.main c) (cod_of_left d (header_of s t) s.main) (quant_of_left d (header_of s t) s.main c) (shift_of_left d (header_of s t) s.main c)

-- ---- steps and planes
number_low : (r levels : ℕ) (b : Band) → r ≤ levels → (number_of r b - 1) / 3 ≤ levels
number_low r levels LL le = omega arith
number_low r levels HL le = omega arith
number_low r levels LH le = omega arith
number_low r levels HH le = omega arith

pair_same : (a b x : ℕ) → a ≡ b → ◌≡◌ {A = ℕ × ℕ} (a, x) (b, x)
pair_same a b x e = rw e refl

step_from : (d : ℕ) (p q : Option Shape) (x y : Option Quant) (number : ℕ) → p ≡ option_map (shape_left d) q → x ≡ y → (number - 1) / 3 ≤ (shape_or q).levels - d
    → ◌≡◌ {A = ℕ × ℕ} (exponent_of (quant_or x) (shape_or p).levels number, mantissa_of (quant_or x) number) (exponent_of (quant_or y) (shape_or q).levels number, mantissa_of (quant_or y) number)
step_from d p q x y number e k inside =
    let levels : (shape_or p).levels ≡ (shape_or q).levels - d = ap (λ (o : Option Shape). (shape_or o).levels) e ∙ ap (λ (z : Shape). z.levels) (shape_or_left d q) in
    rw (k, levels) (pair_same _ _ (mantissa_of (quant_or y) number) (exponent_left (quant_or y) (shape_or q).levels d number inside))

planes_from : (d : ℕ) (p q : Option Shape) (x y : Option Quant) (m n number : ℕ) → p ≡ option_map (shape_left d) q → x ≡ y → m ≡ n → (number - 1) / 3 ≤ (shape_or q).levels - d
    → planes_of (quant_or x) (shape_or p).levels m number ≡ planes_of (quant_or y) (shape_or q).levels n number
planes_from d p q x y m n number e k l inside =
    let levels : (shape_or p).levels ≡ (shape_or q).levels - d = ap (λ (o : Option Shape). (shape_or o).levels) e ∙ ap (λ (z : Shape). z.levels) (shape_or_left d q) in
    rw (k, l, levels) (planes_left (quant_or y) (shape_or q).levels d n number inside)

pub step_same : (d : ℕ) (s : Stream) (t c r : ℕ) (b : Band) → r ≤ (params_of s t c).levels - d → step_of (stream_left d s) t c r b ≡ step_of s t c r b
unfolding stream_left
step_same d s t c r b le =
    ap (λ (own : List Segment). step_by own (map (segment_left d) s.main) c r b) (header_left d s t)
    ∙ step_from d _ (shape_of (header_of s t) s.main c) _ (quant_of (header_of s t) s.main c) (number_of r b) (shape_of_left d (header_of s t) s.main c) (quant_of_left d (header_of s t) s.main c)
    (number_low r ((shape_now s t c).levels - d) b le)

pub planes_same : (d : ℕ) (s : Stream) (t c r : ℕ) (b : Band) → r ≤ (params_of s t c).levels - d → planes_at (stream_left d s) t c r b ≡ planes_at s t c r b
unfolding stream_left
planes_same d s t c r b le =
    ap (λ (own : List Segment). planes_by own (map (segment_left d) s.main) c r b) (header_left d s t)
    ∙ planes_from d _ (shape_of (header_of s t) s.main c) _ (quant_of (header_of s t) s.main c) _ (shift_now s t c) (number_of r b) (shape_of_left d (header_of s t) s.main c)
    (quant_of_left d (header_of s t) s.main c) (shift_of_left d (header_of s t) s.main c) (number_low r ((shape_now s t c).levels - d) b le)

pub levels_left : (d : ℕ) (s : Stream) (t c : ℕ) → (params_of (stream_left d s) t c).levels ≡ (params_of s t c).levels - d
levels_left d s t c = ap (λ (p : Params). p.levels) (params_are d s t c)

pub layers_same : (d : ℕ) (s : Stream) (t : ℕ) → layers_of (stream_left d s) t ≡ layers_of s t
layers_same d s t = ap (λ (p : Params). p.layers) (params_are d s t 0)

pub style_same : (d : ℕ) (s : Stream) (t c : ℕ) → style_of (stream_left d s) t c ≡ style_of s t c
style_same d s t c = ap (λ (p : Params). p.style.bits) (params_are d s t c)

pub component_same : (d : ℕ) (s : Stream) (t c : ℕ) → component_of (params_of (stream_left d s) t c) ≡ component_left d (component_of (params_of s t c))
component_same d s t c = ap component_of (params_are d s t c)

-- ---- shapes
pub comps_long : (d : ℕ) (s : Stream) → length (stream_left d s).siz.comps ≡ length s.siz.comps
unfolding stream_left
comps_long d s = length-map s.siz.comps (size_left d)

size_same : (d : ℕ) (s : Stream) (c : ℕ) → c < length s.siz.comps → size_of (stream_left d s) c ≡ size_left d (size_of s c)
unfolding stream_left
size_same d s c inside = get_or-map (size_left d) s.siz.comps c no_size no_size inside

byte_at : (bytes : List ℕ) (r : ℕ) → r < 33 → slice_index (precincts_of bytes) r ≡ precinct_of bytes r
byte_at bytes r inside = get_or-map-range_with_len (precinct_of bytes) 0 33 r r 0 inside (omega arith)

byte_left : (n r : ℕ) (bytes : List ℕ) → r < suc n → precinct_of (take (suc n) bytes) r ≡ precinct_of bytes r
byte_left n r [] lt = refl
byte_left n r (byte ∷ bytes) lt = get_or-take (suc n) (byte ∷ bytes) r 0 lt

bytes_left : (n r : ℕ) (bytes : List ℕ) → r ≤ n → n < 33 → slice_index (precincts_of (take (n + 1) bytes)) r ≡ slice_index (precincts_of bytes) r
bytes_left n r bytes le few =
    let next : n + 1 ≡ suc n = omega arith in
    byte_at (take (n + 1) bytes) r (omega arith) ∙ ap (λ (m : ℕ). precinct_of (take m bytes) r) next ∙ byte_left n r bytes (omega arith) ∙ sym (byte_at bytes r (omega arith))

module _ (s : Stream) (stand : HeadersStand s) where
  abbrev shape_there : ℕ → ℕ → Shape
  shape_there t c = (shaped_at s stand t c).shape

  shape_is : (t c : ℕ) → shape_now s t c ≡ shape_there t c
  shape_is t c = ap shape_or (shaped_at s stand t c).is

  shape_in_range : (t c : ℕ) → c < length s.siz.comps → ShapeInRange (shape_in s t c)
  shape_in_range t c inside =
      let e : shape_or (shape_at s t c) ≡ shape_there t c = shape_is t c in
      shape_fits (size_of s c) (params_of s t c) (shape_there t c) ((siz_is s.siz stand.siz.fits).each c no_size inside) (shaped_at s stand t c).fits
      (ap (λ (x : Shape). x.levels) e) (ap (λ (x : Shape). x.xcb) e) (ap (λ (x : Shape). x.ycb) e) (ap (λ (x : Shape). precincts_of x.precincts) e)

  pub shapes_in_range : (t : ℕ) → ShapesInRange (shapes_of s t)
  shapes_in_range t c inside =
      let within : c < length s.siz.comps = omega (arith, inside, shapes_length s t) in
      subst ShapeInRange (sym (shapes_at s t c no_shape within)) (shape_in_range t c within)

  module _ (d : ℕ) (clear : IsClear d s) where
    pub enough : (t c : ℕ) → d ≤ (params_of s t c).levels
    enough t c =
        let least : d ≤ (shape_there t c).levels = levels_enough d (header_of s t) s.main c (shape_there t c) (clear_header d s.tiles t clear.tiles) clear.main (shaped_at s stand t c).is in
        omega (arith, ap (λ (x : Shape). x.levels) (shape_is t c))

    most : (t c : ℕ) → (params_of s t c).levels ≤ 32
    most t c = omega (arith, ap (λ (x : Shape). x.levels) (shape_is t c), (shaped_at s stand t c).fits.levels)

    lower : (t c : ℕ) → c < length s.siz.comps → IsLower d (shape_in s t c) (shape_in (stream_left d s) t c)
    lower t c inside =
        let range : ShapeInRange (shape_in s t c) = shape_in_range t c inside in
        let p : params_of (stream_left d s) t c ≡ params_from (shape_left d (shape_now s t c)) (cod_left d (cod_now s t)) (quant_now s t c) (shift_now s t c) = params_are d s t c in
        let levels : (params_of (stream_left d s) t c).levels ≡ (params_of s t c).levels - d = levels_left d s t c in
        let bytes : (params_of (stream_left d s) t c).precincts ≡ precincts_of (take ((shape_now s t c).levels - d + 1) (shape_now s t c).precincts) = ap (λ (x : Params). x.precincts) p in
        record {
          some_across = range.numbers.step_across;
          some_down = range.numbers.step_down;
          across = ap (λ (x : CompSize). x.dx) (size_same d s c inside);
          down = ap (λ (x : CompSize). x.dy) (size_same d s c inside);
          levels = omega (arith, levels, enough t c);
          xcb = ap (λ (x : Params). x.xcb) p;
          ycb = ap (λ (x : Params). x.ycb) p;
          precincts = λ r le.
              (ap (λ (x : List ℕ). slice_index x r) bytes
              ∙ bytes_left ((shape_now s t c).levels - d) r (shape_now s t c).precincts (omega (arith, levels, le)) (omega (arith, most t c)));
        }

    both_lower : (x y u v : CompShape) → u ≡ x → v ≡ y → IsLower d x y → IsLower d u v
    both_lower x y u v e h k = rw (e, h) k

    pub are_lower : (t : ℕ) → AreLower d (shapes_of s t) (shapes_of (stream_left d s) t)
    are_lower t = record {
      long = shapes_length (stream_left d s) t ∙ comps_long d s ∙ sym (shapes_length s t);
      each = λ c lt.
          (let inside : c < length s.siz.comps = omega (arith, lt, shapes_length s t) in
          both_lower (shape_in s t c) (shape_in (stream_left d s) t c) _ _ (shapes_at s t c no_shape inside) (shapes_at (stream_left d s) t c no_shape (omega (arith, inside, comps_long d s))) (lower t c inside));
    }
