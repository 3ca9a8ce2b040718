-- The stream that is written is in range, and its headers stand in its file.
use Rattle.std.proofs.Common.{◌≡◌, ◌∙◌, ◌<◌, ℕ, false, arith, List, [], ◌∷◌, map, length, get_or, refl, sym, ap, subst, nat_lt, Option, Some, None, inl, inr, ◌^◌}
use Rattle.std.specs.Prelude.{IfSome}
use Rattle.std.specs.List.{All, find, flat_map}
use Rattle.std.proofs.lemmas.Bool.{cases_Bool}
use Rattle.std.proofs.lemmas.List.{get_or-map, length-map}
use Rattle.std.proofs.lemmas.List.Elements.{All-nil, All-head, All-tail, All-map, All-weaker}
use Rattle.jx_base.specs.OrderNumbers.{IsOrderNumber}
use Rattle.jx_base.specs.declared.style.Style.{Style}
use Rattle.jx_marker.specs.declared.Segment.{Segment}
use Rattle.jx_marker.specs.declared.Siz.{Siz}
use Rattle.jx_marker.specs.declared.Shape.{Shape}
use Rattle.jx_marker.specs.declared.Progression.{Progression}
use Rattle.jx_marker.specs.Ranges.{SizInRange}
use Rattle.jx_geom.specs.declared.shape.CompShape.{CompShape}
use Rattle.jx_geom.specs.Ranges.{ShapeInRange}
use Rattle.jx_geom.specs.Geometry.{Geometry, ShapesInRange, HasResolution, no_shape}
use Rattle.jx_codestream.specs.declared.headers.HeaderKind.TheVariants.{Main, First}
use Rattle.jx_codestream.specs.declared.Tile.{Tile}
use Rattle.jx_codestream.specs.declared.Stream.{Stream}
use Rattle.jx_codestream.specs.Params.{tile_has_too_few, tile_planes, limit_4_of, shape_or, shape_at, params_of, precincts_of}
use Rattle.jx_codestream.specs.First.{tiles_fault, lacks_default}
use Rattle.jx_codestream.specs.Spells.{AreSegments}
use Rattle.jx_codestream.specs.Shapes.{geometry, shape_in, shapes_of, size_of, no_size, style_of, tile_at, no_tile}
use Rattle.jx_codestream.specs.InRange.{StreamInRange}
use Rattle.jx_codestream.proofs.SegmentLemmas.{defaults_there, segments_fit}
use Rattle.jx_codestream.proofs.ShapeLemmas.{siz_is, shape_fits}
use Rattle.jx_codestream.proofs.RangeLemmas.{shapes_length, shapes_at}
use Rattle.jx_plan.specs.Changes.{MainOrder, main_order, tile_entries, with_entries}
use Rattle.jx_plan.specs.Headers.{HeaderOptions, MayBeInHeaders, all_written, comp_written, main_written, rsiz_written, stream_written, tile_header, tile_written}
use Rattle.jx_plan.specs.Fits.{first_zero, tile_has_zero}
use Rattle.jx_plan.specs.Standing.{IsEntry, IsNote, IsHeaded, HeadersStand}
use Rattle.jx_plan.proofs.AlikeLemmas.{too_few_same, bands_same}
use Rattle.jx_plan.proofs.ChangeLemmas.{main_kind, main_slots}
use Rattle.jx_plan.proofs.EntryLemmas.{by_fit, has_order, tile_poc, volumes_poc}
use Rattle.jx_plan.proofs.PocLemmas.{main_stands, with_stands}
use Rattle.jx_plan.proofs.StandLemmas.{segments_written, segments_more, style_kept}
use Rattle.jx_plan.proofs.ZeroLemmas.{is_clear}
use Rattle.jx_plan.proofs.StreamLemmas.{notes_aside, slots_alike, tile_slots, shaped_at, shapes_stay, layers_are, style_stays, planes_stay}
use Rattle.jx_options.specs.declared.RsizChoice.{RsizChoice}
use Rattle.jx_options.specs.declared.RsizChoice.TheVariants as rsiz

-- the headers

header_stands : (a : HeaderOptions) (comps : ℕ) (m : MainOrder) (t : Tile) → MayBeInHeaders a → tile_has_zero a.wanted.precincts t ≡ false → IsHeaded comps t
    → AreSegments First comps [] (tile_header a comps m t)
header_stands a comps m t may clear h =
    let es : List Progression = tile_entries comps a.wanted.changes m t in
    segments_more comps [] (with_entries es (all_written a t.header)) t.notes (notes_aside comps t.notes h.notes)
    (with_stands comps es (all_written a t.header) (λ e more is. tile_poc comps a.wanted.changes m t e more h.progressions is)
    (segments_written a First comps [] [] t.header may clear (λ slot k. k) h.header))

tile_stands : (a : HeaderOptions) (comps : ℕ) (m n : MainOrder) (t : Tile) → MayBeInHeaders a → tile_has_zero a.wanted.precincts t ≡ false → IsHeaded comps t
    → All (IsEntry comps) (tile_written a comps m n t).progressions → IsHeaded comps (tile_written a comps m n t)
tile_stands a comps m n t may clear h entries = record {
  header = header_stands a comps m t may clear h;
  notes = All-nil (IsNote comps);
  progressions = entries;
}

few_same : (a : HeaderOptions) (comps : ℕ) (main : List Segment) (m n : MainOrder) (t : Tile) → IsHeaded comps t
    → tile_has_too_few (main_written a comps main) comps (tile_written a comps m n t) ≡ tile_has_too_few main comps t
unfolding tile_has_too_few
few_same a comps main m n t h =
    too_few_same a.wanted.precincts a.wanted.style (tile_header a comps m t) t.header (main_written a comps main) main
    (slots_alike a (tile_header a comps m t) t.header (tile_slots a comps m t h)) (slots_alike a (main_written a comps main) main (main_slots a comps main)) comps

planes_same : (a : HeaderOptions) (comps : ℕ) (main : List Segment) (m n : MainOrder) (t : Tile) → IsHeaded comps t
    → tile_planes (main_written a comps main) comps (tile_written a comps m n t) ≡ tile_planes main comps t
unfolding tile_planes
planes_same a comps main m n t h =
    bands_same a.wanted.precincts a.wanted.style (tile_header a comps m t) t.header (main_written a comps main) main
    (slots_alike a (tile_header a comps m t) t.header (tile_slots a comps m t h)) (slots_alike a (main_written a comps main) main (main_slots a comps main)) comps

entries_kept : (a : HeaderOptions) (comps : ℕ) (main : List Segment) (m n : MainOrder) (tiles : List Tile) → All (IsHeaded comps) tiles → find (tile_has_too_few main comps) tiles ≡ None
    → find (tile_has_too_few (main_written a comps main) comps) (map (tile_written a comps m n) tiles) ≡ None
entries_kept a comps main m n [] h none = refl
entries_kept a comps main m n (x ∷ xs) h none = elim (cases_Bool (tile_has_too_few main comps x)) [
  | inl t ↦ let e = rw t at none in absurd (cc)
  | inr f ↦ rw (few_same a comps main m n x (All-head (IsHeaded comps) x xs h), f) (entries_kept a comps main m n xs (All-tail (IsHeaded comps) x xs h) (rw f at none))
]

all_planes_kept : (a : HeaderOptions) (comps : ℕ) (main : List Segment) (m n : MainOrder) (tiles : List Tile) → All (IsHeaded comps) tiles
    → flat_map (tile_planes (main_written a comps main) comps) (map (tile_written a comps m n) tiles) ≡ flat_map (tile_planes main comps) tiles
all_planes_kept a comps main m n [] h = refl
all_planes_kept a comps main m n (x ∷ xs) h =
    rw (planes_same a comps main m n x (All-head (IsHeaded comps) x xs h), all_planes_kept a comps main m n xs (All-tail (IsHeaded comps) x xs h)) refl

both_there : (a : HeaderOptions) (comps : ℕ) (main : List Segment) → lacks_default main ≡ false → lacks_default (main_written a comps main) ≡ false
both_there a comps main h =
    let both = defaults_there main h in
    rw (main_kind a comps main 1 refl, main_kind a comps main 2 refl, both.0, both.1) refl

rsiz_small : (asked : RsizChoice) (siz : Siz) → SizInRange siz → rsiz_written asked siz.rsiz < 2 ^ 14
rsiz_small rsiz.Zero siz r = omega arith
rsiz_small rsiz.Keep siz r = r.rsiz

siz_written : (asked : RsizChoice) (siz : Siz) → SizInRange siz → SizInRange (record siz { rsiz = rsiz_written asked siz.rsiz })
siz_written asked siz r = record { rsiz = rsiz_small asked siz r; x1 = r.x1; y1 = r.y1; x0 = r.x0; y0 = r.y0; tw = r.tw; th = r.th; tx = r.tx; ty = r.ty; fits = r.fits; each = r.each }

few_tiles : (siz : Siz) (rsiz : ℕ) → tiles_fault siz ≡ None → tiles_fault (record siz { rsiz = rsiz }) ≡ None
unfolding tiles_fault
few_tiles siz rsiz h = h

comps_small : (siz : Siz) → SizInRange siz → length siz.comps < 2 ^ 16
comps_small siz r = omega (arith, (siz_is siz r.fits).few)

pub main_in : (a : HeaderOptions) (s : Stream) → MayBeInHeaders a → first_zero a.wanted.precincts s ≡ None → HeadersStand s → AreSegments Main (length s.siz.comps) [] (main_written a (length s.siz.comps) s.main)
main_in a s may none stand =
    let comps = length s.siz.comps in
    main_stands a comps s.main (λ e es is. volumes_poc comps a.wanted.changes e es (comps_small s.siz stand.siz) may.changes is)
    (segments_written a Main comps [] [] s.main may (is_clear a.wanted.precincts s none).main (λ slot k. k) stand.main)

pub written_stands : (a : HeaderOptions) (s : Stream) → MayBeInHeaders a → first_zero a.wanted.precincts s ≡ None → HeadersStand s → HeadersStand (stream_written a s)
unfolding stream_written
written_stands a s may none stand =
    let comps = length s.siz.comps in
    let clear = is_clear a.wanted.precincts s none in
    let m : MainOrder = main_order s.main in
    let n : MainOrder = main_order (main_written a comps s.main) in
    let main = main_in a s may none stand in
    record {
      siz = siz_written a.wanted.rsiz s.siz stand.siz;
      few = few_tiles s.siz (rsiz_written a.wanted.rsiz s.siz.rsiz) stand.few;
      main = main;
      defaults = both_there a comps s.main stand.defaults;
      count = length-map s.tiles (tile_written a comps m n) ∙ stand.count;
      each = All-map (IsHeaded comps) (tile_written a comps m n) s.tiles (λ i d lt. each_stands a comps s.main (get_or s.tiles i d) may main (clear.tiles i d lt) (stand.each i d lt));
      entries = entries_kept a comps s.main m n s.tiles stand.each stand.entries;
      planes = ap (λ (xs : List ℕ). limit_4_of (find (nat_lt 74) xs)) (all_planes_kept a comps s.main m n s.tiles stand.each) ∙ stand.planes;
    }
  where
    each_stands : (a : HeaderOptions) (comps : ℕ) (main : List Segment) (t : Tile) → MayBeInHeaders a → AreSegments Main comps [] (main_written a comps main)
        → tile_has_zero a.wanted.precincts t ≡ false → IsHeaded comps t
        → IsHeaded comps (tile_written a comps (main_order main) (main_order (main_written a comps main)) t)
    each_stands a comps main t may are clear h =
        let m : MainOrder = main_order main in
        tile_stands a comps m (main_order (main_written a comps main)) t may clear h
        (by_fit comps (main_written a comps main) (tile_header a comps m t) (segments_fit Main comps [] (main_written a comps main) are)
        (segments_fit First comps [] (tile_header a comps m t) (header_stands a comps m t may clear h)))

-- the shapes of headers that stand are in range

shape_in_range : (s : Stream) → HeadersStand s → (t c : ℕ) → c < length s.siz.comps → ShapeInRange (shape_in s t c)
shape_in_range s stand t c inside =
    let shape : Shape = (shaped_at s stand t c).shape in
    let e : shape_or (shape_at s t c) ≡ shape = ap shape_or (shaped_at s stand t c).is in
    shape_fits (size_of s c) (params_of s t c) shape ((siz_is s.siz stand.siz.fits).each c no_size inside) (shaped_at s stand t c).fits
    (ap (λ (x : Shape). x.levels) e) (ap (λ (x : Shape). x.xcb) e) (ap (λ (x : Shape). x.ycb) e) (ap (λ (x : Shape). precincts_of x.precincts) e)

pub shapes_in_range : (s : Stream) → HeadersStand s → (t : ℕ) → ShapesInRange (shapes_of s t)
shapes_in_range s stand t c inside =
    let within : c < length s.siz.comps = omega (arith, inside, shapes_length s t) in
    subst ShapeInRange (sym (shapes_at s t c no_shape within)) (shape_in_range s stand t c within)

small_style : (st : Option Style) → IfSome st (λ (style : Style). style.bits < 64) → IfSome st (λ (style : Style). style.bits < 256)
small_style None h = tt
small_style (Some style) h = omega (arith, h)

-- a resolution is there where it was

resolution_kept : (ps : Option (List ℕ)) (g h : Geometry) (c r : ℕ) → h.shapes ≡ map (comp_written ps) g.shapes → HasResolution h c r → HasResolution g c r
resolution_kept ps g h c r e has =
    let long : length h.shapes ≡ length g.shapes = ap length e ∙ length-map g.shapes (comp_written ps) in
    let inside : c < length g.shapes = omega (arith, has.component, long) in
    let at : get_or h.shapes c no_shape ≡ comp_written ps (get_or g.shapes c no_shape) =
    ap (λ (xs : List CompShape). get_or xs c no_shape) e ∙ get_or-map (comp_written ps) g.shapes c no_shape no_shape inside in
    record { component = inside; level = omega (arith, has.level, ap (λ (x : CompShape). x.levels) at) }

pub written_in_range : (a : HeaderOptions) (s : Stream) → MayBeInHeaders a → first_zero a.wanted.precincts s ≡ None → HeadersStand s → StreamInRange s → StreamInRange (stream_written a s)
unfolding stream_written
written_in_range a s may none stand r = record {
  canvas = r.canvas;
  some_comps = r.some_comps;
  few_comps = r.few_comps;
  few_tiles = r.few_tiles;
  tiles = length-map s.tiles (tile_written a (length s.siz.comps) (main_order s.main) (main_order (main_written a (length s.siz.comps) s.main))) ∙ r.tiles;
  shapes = λ t inside. shapes_in_range (stream_written a s) (written_stands a s may none stand) t;
  some_layers = λ t inside. omega (arith, layers_are a s stand t, may.some);
  few_layers = λ t inside. omega (arith, layers_are a s stand t, may.few);
  style = λ t c inside. omega (arith, style_stays a s stand t c, style_kept a.wanted.style (style_of s t c) 256 (small_style a.wanted.style may.style) (r.style t c inside));
  orders = λ t inside.
      (let w : Stream = stream_written a s in
      let headed : IsHeaded (length s.siz.comps) (tile_at w t) = (written_stands a s may none stand).each t no_tile (omega (arith, inside, length-map s.tiles (tile_written a (length s.siz.comps) (main_order s.main) (main_order (main_written a (length s.siz.comps) s.main))), r.tiles)) in
      All-weaker (IsEntry (length s.siz.comps)) (λ (e : Progression). IsOrderNumber e.order) (has_order (length s.siz.comps)) (tile_at w t).progressions headed.progressions);
  planes = λ t c res band inside there has.
      (let same : HasResolution (geometry s t) c res = resolution_kept a.wanted.precincts (geometry s t) (geometry (stream_written a s) t) c res (shapes_stay a s stand t) there in
      omega (arith, planes_stay a s stand t c res band, r.planes t c res band inside same has));
}
