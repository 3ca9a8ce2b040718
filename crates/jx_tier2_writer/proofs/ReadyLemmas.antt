-- Headers that a file may be written from are within the ranges that geometry and the packets ask for.
use Rattle.std.proofs.Common.{◌≡◌, ◌∙◌, ◌<◌, ◌≤◌, ◌+◌, ◌*◌, ℕ, true, false, arith, List, [], length, refl, sym, ap, subst, nat_lt, Option, Some, inl}
use Rattle.std.specs.List.{All}
use Rattle.std.specs.Option.{option_or}
use Rattle.std.proofs.lemmas.Option.{slice_get-get_or}
use Rattle.std.proofs.lemmas.List.Elements.{All-weaker}
use Rattle.jx_base.specs.OrderNumbers.{IsOrderNumber}
use Rattle.jx_base.specs.declared.names.Band.{Band}
use Rattle.jx_base.proofs.Lists.{All-flat}
use Rattle.jx_marker.specs.declared.Cod.{Cod}
use Rattle.jx_marker.specs.declared.Progression.{Progression}
use Rattle.jx_marker.specs.declared.Segment.{Segment}
use Rattle.jx_marker.specs.declared.Shape.{Shape}
use Rattle.jx_marker.specs.Ranges.{InRange}
use Rattle.jx_geom.specs.declared.shape.CompShape.{CompShape}
use Rattle.jx_geom.specs.Geometry.{GeometryInRange, HasResolution, no_shape}
use Rattle.jx_geom.specs.Ranges.{HasBand, ShapeInRange}
use Rattle.jx_codestream.specs.declared.headers.HeaderKind.TheVariants.{First, Main}
use Rattle.jx_codestream.specs.declared.Stream.{Stream}
use Rattle.jx_codestream.specs.First.{tile_number}
use Rattle.jx_codestream.specs.Headers.{has_slot}
use Rattle.jx_codestream.specs.InRange.{StreamInRange}
use Rattle.jx_codestream.specs.Params.{band_planes, chosen, cod_or, header_in, header_of, number_of, params_of, planes_at, precincts_of, quant_at, quant_of, shape_at, shape_of, shape_or, shift_at, shift_of, tile_planes}
use Rattle.jx_codestream.specs.Shapes.{geometry, layers_of, no_size, no_tile, shape_in, size_of, tile_at}
use Rattle.jx_codestream.specs.Tiles.{in_slot}
use Rattle.jx_codestream.proofs.PlaneLemmas.{all_planes, number_inside, tile_fits}
use Rattle.jx_codestream.proofs.RangeLemmas.{shapes_at, shapes_length, few_tiles, planes_fit}
use Rattle.jx_codestream.proofs.SegmentLemmas.{chosen_fits, chosen_there, cod_there, defaults_there, IsCoded, IsQuantized, IsShaped, or_chosen, or_there, quant_there, segments_fit, shape_there, slot_chosen, slot_there}
use Rattle.jx_codestream.proofs.ShapeLemmas.{shape_fits, siz_is, SizFits}
use Rattle.jx_tile.specs.Covered.{IsWhole}
use Rattle.jx_tile.proofs.TotalLemmas.{geometry_fits}
use Rattle.jx_progression.proofs.ExistLemmas.{orders_exist}
use Rattle.jx_tier2_writer.specs.Ready.{AreReady, HasList}
use Rattle.jx_options.specs.declared.Marks.{Marks}
use Rattle.jx_plan.specs.Changes.{entries_by, main_order}
use Rattle.jx_plan.specs.Standing.{IsEntry}
use Rattle.jx_plan.proofs.EntryLemmas.{by_fit, has_order}

module _ (m : Marks) (s : Stream) (ready : AreReady m s) where
  abbrev comps : ℕ
  comps = length s.siz.comps

  sized : SizFits s.siz
  sized = siz_is s.siz ready.siz.fits

  main_fit : All (InRange comps) s.main
  main_fit = segments_fit Main comps [] s.main ready.main

  own_fit : (t : ℕ) → t < tile_number s.siz → All (InRange comps) (header_of s t)
  own_fit t inside = segments_fit First comps [] (header_of s t) (ready.tiles t inside).header

  both_there : (has_slot 1 s.main ≡ true) × (has_slot 2 s.main ≡ true)
  both_there = defaults_there s.main ready.defaults

  header_same : (t : ℕ) → t < tile_number s.siz → header_of s t ≡ (tile_at s t).header
  header_same t inside =
      let within : t < length s.tiles = omega (arith, ready.count) in
      ap header_in (slice_get-get_or s.tiles t no_tile within)

  shaped_at : (t c : ℕ) → t < tile_number s.siz → IsShaped (chosen (261 + 3 * c) 1 (header_of s t) s.main)
  shaped_at t c inside =
      shape_there comps c _ (chosen_fits comps (261 + 3 * c) 1 (header_of s t) s.main (own_fit t inside) main_fit) (chosen_there (261 + 3 * c) 1 (header_of s t) s.main both_there.0)

  quantized_at : (t c : ℕ) → t < tile_number s.siz → IsQuantized (chosen (262 + 3 * c) 2 (header_of s t) s.main)
  quantized_at t c inside =
      quant_there comps c _ (chosen_fits comps (262 + 3 * c) 2 (header_of s t) s.main (own_fit t inside) main_fit) (chosen_there (262 + 3 * c) 2 (header_of s t) s.main both_there.1)

  coded_at : (t : ℕ) → t < tile_number s.siz → IsCoded (option_or (in_slot 1 (header_of s t)) (in_slot 1 s.main))
  coded_at t inside =
      cod_there comps _
      (or_chosen comps 1 1 _ _ (slot_chosen comps 1 1 1 (header_of s t) (own_fit t inside) (inl refl)) (slot_chosen comps 1 1 1 s.main main_fit (inl refl)))
      (or_there (in_slot 1 (header_of s t)) (in_slot 1 s.main) (slot_there 1 s.main both_there.0))

  shape_is : (t c : ℕ) (inside : t < tile_number s.siz) → shape_or (shape_at s t c) ≡ (shaped_at t c inside).shape
  shape_is t c inside = ap shape_or (shaped_at t c inside).is

  shape_in_range : (t c : ℕ) → t < tile_number s.siz → c < comps → ShapeInRange (shape_in s t c)
  shape_in_range t c inside within =
      let shape = (shaped_at t c inside).shape in
      let e = shape_is t c inside in
      shape_fits (size_of s c) (params_of s t c) shape (sized.each c no_size within) (shaped_at t c inside).fits
      (ap (λ (x : Shape). x.levels) e) (ap (λ (x : Shape). x.xcb) e) (ap (λ (x : Shape). x.ycb) e) (ap (λ (x : Shape). precincts_of x.precincts) e)

  layers_is : (t : ℕ) (inside : t < tile_number s.siz) → layers_of s t ≡ (coded_at t inside).cod.layers
  layers_is t inside = ap (λ (x : Option Cod). (cod_or x).layers) (coded_at t inside).is

  bands_fit : (t c : ℕ) → t < tile_number s.siz → c < comps → All (λ (n : ℕ). nat_lt 74 n ≡ false) (band_planes (quant_at s t c) (shape_at s t c) (shift_at s t c))
  bands_fit t c inside within =
      let all = All-flat (λ (n : ℕ). nat_lt 74 n ≡ false) (tile_planes s.main comps) s.tiles (all_planes s.main comps s.tiles ready.planes) in
      let here = all t no_tile (omega (arith, ready.count)) in
      let P : List Segment → Type 0 = λ x. All (λ (n : ℕ). nat_lt 74 n ≡ false) (band_planes (quant_of x s.main c) (shape_of x s.main c) (shift_of x s.main c)) in
      subst P (sym (header_same t inside)) (tile_fits s.main comps (tile_at s t) c within here)

  planes_within : (t c r : ℕ) (band : Band) → t < tile_number s.siz → HasResolution (geometry s t) c r → HasBand r band → planes_at s t c r band ≤ 74
  planes_within t c r band inside there has =
      let within : c < comps = omega (arith, shapes_length s t, there.component) in
      let level : r ≤ (shape_or (shape_at s t c)).levels = omega (arith, ap (λ (x : CompShape). x.levels) (shapes_at s t c no_shape within), there.level) in
      planes_fit (quant_at s t c) (shape_at s t c) (shift_at s t c) (number_of r band) (quantized_at t c inside).quant (shaped_at t c inside).shape
      (quantized_at t c inside).is (shaped_at t c inside).is (number_inside (shape_or (shape_at s t c)).levels r band level has) (bands_fit t c inside within)

  -- each entry names one of the five orders
  orders_fit : (t : ℕ) → t < tile_number s.siz → All (λ (e : Progression). IsOrderNumber e.order) (tile_at s t).progressions
  orders_fit t inside =
      subst (λ (z : List Progression). All (λ (e : Progression). IsOrderNumber e.order) z) (sym (ready.tiles t inside).progressions)
      (All-weaker (IsEntry comps) (λ (e : Progression). IsOrderNumber e.order) (has_order comps) (entries_by (main_order s.main) (header_of s t)) (by_fit comps s.main (header_of s t) main_fit (own_fit t inside)))

  pub ready_in_range : StreamInRange s
  ready_in_range = record {
    canvas = sized.canvas;
    some_comps = sized.some;
    few_comps = sized.few;
    few_tiles = few_tiles s.siz ready.few_tiles;
    tiles = ready.count;
    shapes = λ t inside c within.
        let near : c < comps = omega (arith, shapes_length s t) in
        subst (λ (x : CompShape). ShapeInRange x) (sym (shapes_at s t c no_shape near)) (shape_in_range t c inside near);
    some_layers = λ t inside. omega (arith, layers_is t inside, (coded_at t inside).fits.some);
    few_layers = λ t inside. omega (arith, layers_is t inside, (coded_at t inside).fits.layers);
    style = λ t c inside. omega (arith, ap (λ (x : Shape). x.style) (shape_is t c inside), (shaped_at t c inside).fits.style);
    orders = orders_fit;
    planes = planes_within;
  }

  -- so each tile has its geometry, an entry for each packet, and a list of them
  pub ready_geometry : (t : ℕ) → t < tile_number s.siz → GeometryInRange (geometry s t)
  ready_geometry t inside = geometry_fits s t ready_in_range ready.totals inside

  pub ready_whole : (t : ℕ) → t < tile_number s.siz → IsWhole s t
  ready_whole t inside = (ready.tiles t inside).whole

  pub ready_list : (t : ℕ) → t < tile_number s.siz → HasList s t
  ready_list t inside = orders_exist (geometry s t) (layers_of s t) (tile_at s t).progressions (length (tile_at s t).progressions) (ready_geometry t inside)
