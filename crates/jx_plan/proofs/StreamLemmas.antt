-- The parameters of the stream that is written are those of its stream, but for the order, the layers, the precincts and the style.
use Rattle.std.proofs.Common.{◌≡◌, ◌∙◌, ◌<◌, ◌+◌, ◌*◌, ℕ, zero, suc, true, List, [], ◌∷◌, map, length, refl, ap, Option, Some, None, inl}
use Rattle.std.specs.List.{All, slice_get}
use Rattle.std.specs.Option.{option_or, option_map, is_some}
use Rattle.std.proofs.lemmas.List.{get_or-map}
use Rattle.std.proofs.lemmas.List.Elements.{All-nil, All-head, All-tail, All-weaker}
use Rattle.jx_base.specs.declared.names.Band.{Band}
use Rattle.jx_base.specs.declared.style.Style.{Style}
use Rattle.jx_marker.specs.declared.Progression.{Progression}
use Rattle.jx_marker.specs.declared.Segment.{Segment}
use Rattle.jx_marker.specs.declared.Segment.TheVariants as segment
use Rattle.jx_marker.specs.declared.Shape.{Shape}
use Rattle.jx_marker.specs.declared.Quant.{Quant}
use Rattle.jx_marker.specs.declared.Cod.{Cod}
use Rattle.jx_marker.specs.Ranges.{InRange}
use Rattle.jx_geom.specs.declared.shape.CompShape.{CompShape}
use Rattle.jx_codestream.specs.declared.headers.HeaderKind.TheVariants.{Main, First}
use Rattle.jx_codestream.specs.declared.Tile.{Tile}
use Rattle.jx_codestream.specs.declared.Stream.{Stream}
use Rattle.jx_codestream.specs.Index.{gives}
use Rattle.jx_codestream.specs.declared.Params.{Params}
use Rattle.jx_codestream.specs.Tiles.{in_slot}
use Rattle.jx_codestream.specs.First.{canvas_of, tile_number}
use Rattle.jx_codestream.specs.Params.{chosen, precincts_of, shape_of, quant_of, shift_of, cod_in, cod_of, shape_or, quant_or, cod_or, params_from, params_by, header_in, header_of, params_of, step_of, planes_at}
use Rattle.jx_codestream.specs.Shapes.{shapes_of, geometry, layers_of, style_of, tile_at, no_tile}
use Rattle.jx_codestream.proofs.SegmentLemmas.{segments_fit, defaults_there, slot_chosen, or_chosen, slot_there, or_there, chosen_fits, chosen_there, IsShaped, shape_there, IsCoded, cod_there}
use Rattle.jx_plan.specs.Headers.{HeaderOptions, cod_written, comp_written, exponents_written, params_written, precincts_written, shape_written, style_written, written, all_written, main_written, tile_header, tile_written, stream_written}
use Rattle.jx_plan.specs.Asides.{IsAside}
use Rattle.jx_plan.specs.Changes.{MainOrder, main_order, tile_entries, with_entries}
use Rattle.jx_plan.specs.Standing.{IsNote, IsHeaded, HeadersStand}
use Rattle.jx_plan.proofs.AlikeLemmas.{HeadersAlike, IsThere, shape_same, quant_same, shift_same, step_same, planes_same, shapes_same}
use Rattle.jx_plan.proofs.WrittenLemmas.{alike_written, alike_to, slot_written, slot_more, cod_kept}
use Rattle.jx_plan.proofs.ChangeLemmas.{or_map, with_slots}
use Rattle.jx_plan.proofs.ChangeLemmas.{main_slots as slots_of_main}
use Rattle.jx_plan.proofs.MoreLemmas.{or_same}

note_aside : (comps : ℕ) (s : Segment) → IsNote comps s → IsAside comps s
note_aside comps (segment.Com bytes) h = record { range = h.range; is = refl }
note_aside comps _ h = absurd (let e = h.is in cc)

pub notes_aside : (comps : ℕ) (notes : List Segment) → All (IsNote comps) notes → All (IsAside comps) notes
notes_aside comps notes h = All-weaker (IsNote comps) (IsAside comps) (note_aside comps) notes h

-- each segment that gives a parameter is written

abbrev pub SlotsWritten : HeaderOptions → List Segment → List Segment → Type 0
SlotsWritten a xs ys = (slot : ℕ) → gives slot ≡ true → in_slot slot xs ≡ option_map (written a) (in_slot slot ys)

pub tile_slots : (a : HeaderOptions) (comps : ℕ) (m : MainOrder) (t : Tile) → IsHeaded comps t → SlotsWritten a (tile_header a comps m t) t.header
tile_slots a comps m t h slot g =
    let es : List Progression = tile_entries comps a.wanted.changes m t in
    slot_more comps slot (with_entries es (all_written a t.header)) t.notes g (notes_aside comps t.notes h.notes) ∙ with_slots es slot (all_written a t.header) g ∙ slot_written a slot t.header g

header_slots : (a : HeaderOptions) (m n : MainOrder) (comps : ℕ) (tiles : List Tile) (t : ℕ) → All (IsHeaded comps) tiles
    → SlotsWritten a (header_in (slice_get (map (tile_written a comps m n) tiles) t)) (header_in (slice_get tiles t))
header_slots a m n comps [] t h slot g = refl
header_slots a m n comps (x ∷ xs) zero h slot g = tile_slots a comps m x (All-head (IsHeaded comps) x xs h) slot g
header_slots a m n comps (x ∷ xs) (suc t) h slot g = header_slots a m n comps xs t (All-tail (IsHeaded comps) x xs h) slot g

pub slots_alike : (a : HeaderOptions) (xs ys : List Segment) → SlotsWritten a xs ys → HeadersAlike a.wanted.precincts a.wanted.style xs ys
slots_alike a xs ys h slot g = alike_to a.wanted.precincts a.wanted.style (in_slot slot xs) (option_map (written a) (in_slot slot ys)) (in_slot slot ys) (h slot g) (alike_written a (in_slot slot ys))

pub cod_slots : (a : HeaderOptions) (own other main there : List Segment) → SlotsWritten a own other → SlotsWritten a main there → cod_of own main ≡ option_map (cod_written a) (cod_of other there)
cod_slots a own other main there here mains =
    ap cod_in (or_same (in_slot 1 own) (in_slot 1 main) _ _ (here 1 refl) (mains 1 refl) ∙ or_map (written a) (in_slot 1 other) (in_slot 1 there))
    ∙ cod_kept a (option_or (in_slot 1 other) (in_slot 1 there))

exponents_are : (ps : Option (List ℕ)) (shape : Shape) → precincts_of (precincts_written ps shape) ≡ exponents_written ps shape.levels (precincts_of shape.precincts)
exponents_are None shape = refl
exponents_are (Some items) shape = refl

both_asked : (a : HeaderOptions) (shape : Shape) (cod : Cod) (y : Option Quant) (n : ℕ)
    → params_from (shape_written a.wanted.precincts a.wanted.style shape) (cod_written a cod) (quant_or y) n ≡ params_written a (params_from shape cod (quant_or y) n)
both_asked a shape cod y n = rw (exponents_are a.wanted.precincts shape) refl

all_asked : (a : HeaderOptions) (p q : Option Shape) (x y : Option Quant) (m n : ℕ) (u v : Option Cod) (shape : Shape) (cod : Cod) → p ≡ option_map (shape_written a.wanted.precincts a.wanted.style) q → q ≡ Some shape
    → x ≡ y → m ≡ n → u ≡ Some (cod_written a cod) → v ≡ Some cod
    → params_from (shape_or p) (cod_or u) (quant_or x) m ≡ params_written a (params_from (shape_or q) (cod_or v) (quant_or y) n)
all_asked a p q x y m n u v shape cod e there d k f h =
    let same : p ≡ Some (shape_written a.wanted.precincts a.wanted.style shape) = e ∙ ap (option_map (shape_written a.wanted.precincts a.wanted.style)) there in
    rw (same, there, d, k, f, h) (both_asked a shape cod y n)

params_are : (a : HeaderOptions) (own other main there : List Segment) (c : ℕ) (shape : Shape) (cod : Cod) → SlotsWritten a own other → SlotsWritten a main there
    → shape_of other there c ≡ Some shape → cod_of other there ≡ Some cod → params_by own main c ≡ params_written a (params_by other there c)
params_are a own other main there c shape cod here mains shaped is =
    let h = slots_alike a own other here in
    let m = slots_alike a main there mains in
    all_asked a (shape_of own main c) (shape_of other there c) (quant_of own main c) (quant_of other there c) (shift_of own main c) (shift_of other there c) (cod_of own main) (cod_of other there) shape cod
    (shape_same a.wanted.precincts a.wanted.style own other main there h m c) shaped (quant_same a.wanted.precincts a.wanted.style own other main there h m c) (shift_same a.wanted.precincts a.wanted.style own other main there h m c)
    (cod_slots a own other main there here mains ∙ ap (option_map (cod_written a)) is) is

-- the COD of a tile

headers_fit : (comps : ℕ) (tiles : List Tile) (t : ℕ) → All (IsHeaded comps) tiles → All (InRange comps) (header_in (slice_get tiles t))
headers_fit comps [] t h = All-nil (InRange comps)
headers_fit comps (x ∷ xs) zero h = segments_fit First comps [] x.header (All-head (IsHeaded comps) x xs h).header
headers_fit comps (x ∷ xs) (suc t) h = headers_fit comps xs t (All-tail (IsHeaded comps) x xs h)

pub coded_at : (s : Stream) → HeadersStand s → (t : ℕ) → IsCoded (option_or (in_slot 1 (header_of s t)) (in_slot 1 s.main))
coded_at s stand t =
    let comps = length s.siz.comps in
    let own = headers_fit comps s.tiles t stand.each in
    let main = segments_fit Main comps [] s.main stand.main in
    cod_there comps _
    (or_chosen comps 1 1 _ _ (slot_chosen comps 1 1 1 (header_of s t) own (inl refl)) (slot_chosen comps 1 1 1 s.main main (inl refl)))
    (or_there (in_slot 1 (header_of s t)) (in_slot 1 s.main) (slot_there 1 s.main (defaults_there s.main stand.defaults).0))

-- and the shape of a component

pub shaped_at : (s : Stream) → HeadersStand s → (t c : ℕ) → IsShaped (chosen (261 + 3 * c) 1 (header_of s t) s.main)
shaped_at s stand t c =
    let comps = length s.siz.comps in
    let own = headers_fit comps s.tiles t stand.each in
    let main = segments_fit Main comps [] s.main stand.main in
    shape_there comps c _ (chosen_fits comps (261 + 3 * c) 1 (header_of s t) s.main own main)
    (chosen_there (261 + 3 * c) 1 (header_of s t) s.main (defaults_there s.main stand.defaults).0)

there_by : (ps : Option (List ℕ)) (o : Option Shape) (shape : Shape) → o ≡ Some shape → IsThere ps o
there_by None o shape e = tt
there_by (Some items) o shape e = ap is_some e

pub tile_number_stays : (a : HeaderOptions) (s : Stream) → tile_number (stream_written a s).siz ≡ tile_number s.siz
unfolding stream_written
tile_number_stays a s = refl

pub canvas_stays : (a : HeaderOptions) (s : Stream) → canvas_of (stream_written a s).siz ≡ canvas_of s.siz
unfolding stream_written
canvas_stays a s = refl

module _ (a : HeaderOptions) (s : Stream) (stand : HeadersStand s) where
  pub own_slots : (t : ℕ) → SlotsWritten a (header_of (stream_written a s) t) (header_of s t)
  unfolding stream_written
  own_slots t = header_slots a (main_order s.main) (main_order (main_written a (length s.siz.comps) s.main)) (length s.siz.comps) s.tiles t stand.each

  pub main_slots : SlotsWritten a (stream_written a s).main s.main
  unfolding stream_written
  main_slots slot g = slots_of_main a (length s.siz.comps) s.main slot g

  own_alike : (t : ℕ) → HeadersAlike a.wanted.precincts a.wanted.style (header_of (stream_written a s) t) (header_of s t)
  own_alike t = slots_alike a (header_of (stream_written a s) t) (header_of s t) (own_slots t)

  main_alike : HeadersAlike a.wanted.precincts a.wanted.style (stream_written a s).main s.main
  main_alike = slots_alike a (stream_written a s).main s.main main_slots

  comps_same : (stream_written a s).siz.comps ≡ s.siz.comps
  unfolding stream_written
  comps_same = refl

  pub params_stay : (t c : ℕ) → params_of (stream_written a s) t c ≡ params_written a (params_of s t c)
  params_stay t c =
      params_are a (header_of (stream_written a s) t) (header_of s t) (stream_written a s).main s.main c (shaped_at s stand t c).shape (coded_at s stand t).cod (own_slots t) main_slots
      (shaped_at s stand t c).is (coded_at s stand t).is

  pub step_stays : (t c r : ℕ) (band : Band) → step_of (stream_written a s) t c r band ≡ step_of s t c r band
  step_stays t c r band = step_same a.wanted.precincts a.wanted.style (header_of (stream_written a s) t) (header_of s t) (stream_written a s).main s.main (own_alike t) main_alike c r band

  pub planes_stay : (t c r : ℕ) (band : Band) → planes_at (stream_written a s) t c r band ≡ planes_at s t c r band
  planes_stay t c r band = planes_same a.wanted.precincts a.wanted.style (header_of (stream_written a s) t) (header_of s t) (stream_written a s).main s.main (own_alike t) main_alike c r band

  pub shapes_stay : (t : ℕ) → shapes_of (stream_written a s) t ≡ map (comp_written a.wanted.precincts) (shapes_of s t)
  shapes_stay t =
      shapes_same a.wanted.precincts a.wanted.style (header_of (stream_written a s) t) (header_of s t) (stream_written a s).main s.main (own_alike t) main_alike (stream_written a s).siz s.siz comps_same
      (λ comp. there_by a.wanted.precincts (shape_of (header_of s t) s.main comp) (shaped_at s stand t comp).shape (shaped_at s stand t comp).is)

  pub geometry_stays : (t : ℕ) → geometry (stream_written a s) t ≡ record (geometry s t) { shapes = map (comp_written a.wanted.precincts) (shapes_of s t) }
  unfolding stream_written
  geometry_stays t = ap (λ (xs : List CompShape). record { canvas = canvas_of s.siz; tile = t; shapes = xs }) (shapes_stay t)

  pub layers_are : (t : ℕ) → layers_of (stream_written a s) t ≡ a.layers
  layers_are t = ap (λ (p : Params). p.layers) (params_stay t 0)

  pub style_stays : (t c : ℕ) → style_of (stream_written a s) t c ≡ (style_written a.wanted.style (record { bits = style_of s t c })).bits
  style_stays t c = ap (λ (p : Params). p.style.bits) (params_stay t c)

  pub own_style : a.wanted.style ≡ None → (t c : ℕ) → style_of (stream_written a s) t c ≡ style_of s t c
  own_style none t c = style_stays t c ∙ ap (λ (o : Option Style). (style_written o (record { bits = style_of s t c })).bits) none

  pub tile_is : (t : ℕ) → t < length s.tiles → tile_at (stream_written a s) t
      ≡ tile_written a (length s.siz.comps) (main_order s.main) (main_order (main_written a (length s.siz.comps) s.main)) (tile_at s t)
  unfolding stream_written
  tile_is t inside = get_or-map (tile_written a (length s.siz.comps) (main_order s.main) (main_order (main_written a (length s.siz.comps) s.main))) s.tiles t no_tile no_tile inside
