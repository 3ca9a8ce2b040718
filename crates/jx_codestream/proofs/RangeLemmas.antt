-- A stream that was read is within the ranges that the calls below ask for.
use Rattle.std.proofs.Common.{◌≡◌, ◌∙◌, ◌<◌, ◌≤◌, ◌+◌, ◌*◌, ◌==◌, ℕ, true, false, arith, List, [], length, get_or, refl, sym, ap, subst, nat_lt, Option, Some, None, inl}
use Rattle.std.specs.List.{All}
use Rattle.std.specs.Option.{option_or}
use Rattle.std.proofs.lemmas.Bool.Decides.{nat_tests}
use Rattle.std.proofs.lemmas.Option.{slice_get-get_or}
use Rattle.std.proofs.lemmas.List.FromFn.{get_or-map-range_with_len, length-map-range_with_len}
use Rattle.std.proofs.lemmas.List.Elements.{All-filter}
use Rattle.jx_base.specs.declared.names.Band.{Band}
use Rattle.jx_marker.specs.declared.Segment.{Segment}
use Rattle.jx_marker.specs.declared.Siz.{Siz}
use Rattle.jx_marker.specs.declared.Shape.{Shape}
use Rattle.jx_marker.specs.declared.Quant.{Quant}
use Rattle.jx_marker.specs.declared.Cod.{Cod}
use Rattle.jx_marker.specs.Ranges.{InRange}
use Rattle.jx_geom.specs.declared.shape.CompShape.{CompShape}
use Rattle.jx_geom.specs.Ranges.{ShapeInRange, HasBand}
use Rattle.jx_geom.specs.Geometry.{HasResolution, no_shape}
use Rattle.jx_codestream.specs.declared.headers.HeaderKind.TheVariants.{Main}
use Rattle.jx_codestream.specs.declared.parts.PlacedPart.{PlacedPart}
use Rattle.jx_codestream.specs.declared.Tile.{Tile}
use Rattle.jx_codestream.specs.declared.Stream.{Stream}
use Rattle.jx_codestream.specs.Headers.{has_packed, has_slot}
use Rattle.jx_codestream.specs.Parts.{parts_of}
use Rattle.jx_codestream.specs.Tiles.{in_slot, tile_from, tile_of}
use Rattle.jx_codestream.specs.First.{tile_number, tiles_fault}
use Rattle.jx_codestream.specs.Params.{chosen, shape_of, quant_of, shift_of, cod_of, shape_or, quant_or, cod_or, header_in, header_of, headers_at, shape_at, quant_at, shift_at, params_of, planes_of, planes_at, precincts_of, number_of, band_count, band_planes, tile_planes}
use Rattle.jx_codestream.specs.Spells.{placed, first_sot, main_packed}
use Rattle.jx_codestream.specs.Read.{IsRead}
use Rattle.jx_codestream.specs.Shapes.{shapes_of, shapes_in, shape_in, geometry, size_of, no_size, tile_at, no_tile, layers_of}
use Rattle.jx_codestream.specs.InRange.{StreamInRange, HeadersInRange}
use Rattle.jx_codestream.specs.PackedHeaders.{with_shares}
use Rattle.jx_codestream.proofs.SharesLemmas.{shares_keep}
use Rattle.jx_codestream.proofs.SegmentLemmas.{HasFitting, segments_fit, parts_fit, first_fits, defaults_there, slot_chosen, or_chosen, slot_there, or_there, chosen_fits, chosen_there, IsShaped, shape_there, IsQuantized, quant_there, IsCoded, cod_there}
use Rattle.jx_codestream.proofs.PlaneLemmas.{all_planes, tile_fits, band_fits, number_inside}
use Rattle.jx_codestream.proofs.ShapeLemmas.{SizFits, siz_is, shape_fits}
use Rattle.jx_codestream.proofs.EntryLemmas.{HasOrder, orders_fit}
use Rattle.jx_base.proofs.Lists.{All-flat}

-- the shapes of a tile, one for each component

pub shapes_length : (s : Stream) (t : ℕ) → length (shapes_of s t) ≡ length s.siz.comps
unfolding shapes_in
shapes_length s t = length-map-range_with_len (shape_in s t) 0 (length s.siz.comps)

pub shapes_at : (s : Stream) (t c : ℕ) (d : CompShape) → c < length s.siz.comps → get_or (shapes_of s t) c d ≡ shape_in s t c
unfolding shapes_in
shapes_at s t c d inside = get_or-map-range_with_len (shape_in s t) 0 (length s.siz.comps) c c d inside (omega arith)

pub tile_of_is : (main : List Segment) (parts : List PlacedPart) (t : ℕ) → tile_of main parts t ≡ tile_from main (parts_of t parts)
unfolding tile_of
tile_of_is main parts t = refl

pub few_tiles : (siz : Siz) → tiles_fault siz ≡ None → tile_number siz ≤ 65535
unfolding tiles_fault
few_tiles siz h = grind (arith, nat_tests)

pub planes_fit : (quants : Option Quant) (shapes : Option Shape) (shift number : ℕ) (quant : Quant) (shape : Shape) → quants ≡ Some quant → shapes ≡ Some shape
    → number < band_count (shape_or shapes).levels → All (λ (n : ℕ). nat_lt 74 n ≡ false) (band_planes quants shapes shift)
    → planes_of (quant_or quants) (shape_or shapes).levels shift number ≤ 74
planes_fit None shapes shift number quant shape q e inside h = absurd (cc)
planes_fit (Some x) None shift number quant shape q e inside h = absurd (cc)
planes_fit (Some x) (Some y) shift number quant shape q e inside h = band_fits x y shift number inside h

module _ (b : List ℕ) (s : Stream) (read : IsRead b s) where
  abbrev parts : List PlacedPart
  parts = with_shares b (main_packed s.siz s.main) (placed (length s.siz.comps) (first_sot s.siz s.main) read.spelled.parts)

  sized : SizFits s.siz
  sized = siz_is s.siz read.spelled.siz.fits

  main_fit : All (InRange (length s.siz.comps)) s.main
  main_fit = segments_fit Main (length s.siz.comps) [] s.main read.spelled.main

  both_there : (has_slot 1 s.main ≡ true) × (has_slot 2 s.main ≡ true)
  both_there = defaults_there s.main read.spelled.defaults

  own_fit : (t : ℕ) → All (HasFitting (length s.siz.comps)) (parts_of t parts)
  own_fit t =
      All-filter (λ (p : PlacedPart). p.sot.tile == t) (HasFitting (length s.siz.comps)) parts
      (shares_keep (HasFitting (length s.siz.comps)) (λ p pieces h. h) b (main_packed s.siz s.main) (placed (length s.siz.comps) (first_sot s.siz s.main) read.spelled.parts)
      (parts_fit (has_packed s.main) (length s.siz.comps) (tile_number s.siz) read.spelled.rest [] (first_sot s.siz s.main) read.spelled.parts read.spelled.tile_parts))

  count_is : length s.tiles ≡ tile_number s.siz
  count_is = ap length read.spelled.tiles ∙ length-map-range_with_len (tile_of s.main parts) 0 (tile_number s.siz)

  tile_is : (t : ℕ) → t < tile_number s.siz → tile_at s t ≡ tile_from s.main (parts_of t parts)
  tile_is t inside =
      ap (λ (x : List Tile). get_or x t no_tile) read.spelled.tiles
      ∙ get_or-map-range_with_len (tile_of s.main parts) 0 (tile_number s.siz) t t no_tile inside (omega arith) ∙ tile_of_is s.main parts t

  header_same : (t : ℕ) → t < tile_number s.siz → header_of s t ≡ (tile_at s t).header
  header_same t inside =
      let within : t < length s.tiles = omega (arith, count_is) in
      ap header_in (slice_get-get_or s.tiles t no_tile within)

  header_fits : (t : ℕ) → t < tile_number s.siz → All (InRange (length s.siz.comps)) (header_of s t)
  header_fits t inside =
      let P : List Segment → Type 0 = λ x. All (InRange (length s.siz.comps)) x in
      subst P (sym (header_same t inside ∙ ap (λ (x : Tile). x.header) (tile_is t inside))) (first_fits (length s.siz.comps) (parts_of t parts) (own_fit t))

  shaped_at : (t c : ℕ) → t < tile_number s.siz → IsShaped (chosen (261 + 3 * c) 1 (header_of s t) s.main)
  shaped_at t c inside =
      shape_there (length s.siz.comps) c _ (chosen_fits (length s.siz.comps) (261 + 3 * c) 1 (header_of s t) s.main (header_fits t inside) main_fit)
      (chosen_there (261 + 3 * c) 1 (header_of s t) s.main both_there.0)

  quantized_at : (t c : ℕ) → t < tile_number s.siz → IsQuantized (chosen (262 + 3 * c) 2 (header_of s t) s.main)
  quantized_at t c inside =
      quant_there (length s.siz.comps) c _ (chosen_fits (length s.siz.comps) (262 + 3 * c) 2 (header_of s t) s.main (header_fits t inside) main_fit)
      (chosen_there (262 + 3 * c) 2 (header_of s t) s.main both_there.1)

  coded_at : (t : ℕ) → t < tile_number s.siz → IsCoded (option_or (in_slot 1 (header_of s t)) (in_slot 1 s.main))
  coded_at t inside =
      cod_there (length s.siz.comps) _
      (or_chosen (length s.siz.comps) 1 1 _ _ (slot_chosen (length s.siz.comps) 1 1 1 (header_of s t) (header_fits t inside) (inl refl))
      (slot_chosen (length s.siz.comps) 1 1 1 s.main main_fit (inl refl)))
      (or_there (in_slot 1 (header_of s t)) (in_slot 1 s.main) (slot_there 1 s.main both_there.0))

  cod_is : (t : ℕ) (inside : t < tile_number s.siz) → cod_or (cod_of (header_of s t) s.main) ≡ (coded_at t inside).cod
  cod_is t inside = ap cod_or (coded_at t inside).is

  shape_is : (t c : ℕ) (inside : t < tile_number s.siz) → shape_or (shape_at s t c) ≡ (shaped_at t c inside).shape
  shape_is t c inside = ap shape_or (shaped_at t c inside).is

  shape_in_range : (t c : ℕ) → t < tile_number s.siz → c < length s.siz.comps → ShapeInRange (shape_in s t c)
  shape_in_range t c inside within =
      let shape = (shaped_at t c inside).shape in
      let e = shape_is t c inside in
      shape_fits (size_of s c) (params_of s t c) shape (sized.each c no_size within) (shaped_at t c inside).fits
      (ap (λ (x : Shape). x.levels) e) (ap (λ (x : Shape). x.xcb) e) (ap (λ (x : Shape). x.ycb) e) (ap (λ (x : Shape). precincts_of x.precincts) e)

  layers_is : (t : ℕ) (inside : t < tile_number s.siz) → layers_of s t ≡ (coded_at t inside).cod.layers
  layers_is t inside = ap (λ (x : Cod). x.layers) (cod_is t inside)

  bands_fit : (t c : ℕ) → t < tile_number s.siz → c < length s.siz.comps
      → All (λ (n : ℕ). nat_lt 74 n ≡ false) (band_planes (quant_at s t c) (shape_at s t c) (shift_at s t c))
  bands_fit t c inside within =
      let all = All-flat (λ (n : ℕ). nat_lt 74 n ≡ false) (tile_planes s.main (length s.siz.comps)) s.tiles (all_planes s.main (length s.siz.comps) s.tiles read.planes) in
      let here = all t no_tile (omega (arith, count_is)) in
      let P : List Segment → Type 0 = λ x. All (λ (n : ℕ). nat_lt 74 n ≡ false) (band_planes (quant_of x s.main c) (shape_of x s.main c) (shift_of x s.main c)) in
      subst P (sym (header_same t inside)) (tile_fits s.main (length s.siz.comps) (tile_at s t) c within here)

  planes_within : (t c r : ℕ) (band : Band) → t < tile_number s.siz → HasResolution (geometry s t) c r → HasBand r band → planes_at s t c r band ≤ 74
  planes_within t c r band inside there has =
      let within : c < length s.siz.comps = omega (arith, shapes_length s t, there.component) in
      let level : r ≤ (shape_or (shape_at s t c)).levels = omega (arith, ap (λ (x : CompShape). x.levels) (shapes_at s t c no_shape within), there.level) in
      planes_fit (quant_at s t c) (shape_at s t c) (shift_at s t c) (number_of r band) (quantized_at t c inside).quant (shaped_at t c inside).shape
      (quantized_at t c inside).is (shaped_at t c inside).is (number_inside (shape_or (shape_at s t c)).levels r band level has) (bands_fit t c inside within)

  pub read_in_range : StreamInRange s
  read_in_range = record {
    canvas = sized.canvas;
    some_comps = sized.some;
    few_comps = sized.few;
    few_tiles = few_tiles s.siz read.tiles;
    tiles = count_is;
    shapes = λ t inside c within.
        let near : c < length s.siz.comps = omega (arith, shapes_length s t) in
        subst (λ (x : CompShape). ShapeInRange x) (sym (shapes_at s t c no_shape near)) (shape_in_range t c inside near);
    some_layers = λ t inside. omega (arith, layers_is t inside, (coded_at t inside).fits.some);
    few_layers = λ t inside. omega (arith, layers_is t inside, (coded_at t inside).fits.layers);
    style = λ t c inside. omega (arith, ap (λ (x : Shape). x.style) (shape_is t c inside), (shaped_at t c inside).fits.style);
    orders = λ t inside.
        subst (λ (x : Tile). All HasOrder x.progressions) (sym (tile_is t inside)) (orders_fit (length s.siz.comps) s.main (parts_of t parts) main_fit (own_fit t));
    planes = planes_within;
  }

-- each tile's headers are in range, where all are
pub tile_in_range : (s : Stream) (t : ℕ) → StreamInRange s → t < tile_number s.siz → HeadersInRange (headers_at s t)
tile_in_range s t r inside = record {
  canvas = r.canvas;
  some_comps = r.some_comps;
  few_comps = r.few_comps;
  shapes = r.shapes t inside;
  some_layers = r.some_layers t inside;
  few_layers = r.few_layers t inside;
  style = λ c. r.style t c inside;
  planes = λ c res band within level has.
      r.planes t c res band inside
      (record {
        component = omega (arith, shapes_length s t);
        level = omega (arith, ap (λ (x : CompShape). x.levels) (shapes_at s t c no_shape within));
      }) has;
}
