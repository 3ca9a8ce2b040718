-- A made file has at most 2^28 bytes: 216 packets, of which each has at most 3,072 code-blocks with at most 146 bytes of header and 92 coded
-- bytes for each.
use Rattle.std.proofs.Common.{◌≡◌, ◌∙◌, ℕ, zero, suc, ◌+◌, ◌-◌, ◌*◌, ◌^◌, ◌≤◌, ◌<◌, List, [], ◌∷◌, ◌++◌, length, map, refl, sym, ap, subst, arith, inl, inr}
use Rattle.std.specs.List.{AllByRecursion, range_with_len}
use Rattle.std.proofs.lemmas.Bool.{cases_eq, cases_lt, eq-eqb, ne_eqb}
use Rattle.std.proofs.lemmas.List.{length-append}
use Rattle.std.proofs.lemmas.List.FromFn.{length-map-range_with_len}
use Rattle.std.proofs.lemmas.Nat.{mul-le, pow_pos}
use Rattle.jx_base.specs.declared.names.Band.{Band}
use Rattle.jx_base.specs.declared.names.Band.TheVariants.{LL, HL, LH, HH}
use Rattle.jx_base.specs.declared.names.Rect.{Rect}
use Rattle.jx_base.specs.declared.names.Span.{Span}
use Rattle.jx_base.specs.Bands.{bands_at}
use Rattle.jx_base.specs.Joined.{joined}
use Rattle.jx_base.specs.Numbers.{ceil_of}
use Rattle.jx_base.specs.Pieces.{PieceValue}
use Rattle.jx_base.specs.Places.{length_of}
use Rattle.jx_base.proofs.Ceilings.{ceil_from, ceil_least}
use Rattle.jx_base.proofs.Joined.{joined_next, joined_none}
use Rattle.jx_geom.specs.declared.shape.CompShape.{CompShape}
use Rattle.jx_geom.specs.Counts.{block_count}
use Rattle.jx_geom.specs.Geometry.{Geometry, GeometryInRange, rect_of_tile, shape_of}
use Rattle.jx_geom.specs.Precincts.{HasPrecinct, leaves}
use Rattle.jx_geom.specs.Rects.{band_level, band_rect, block_across, block_cells, block_down, component_rect, off_across, off_down, tile_rect}
use Rattle.jx_geom.specs.Spans.{band_span, cells}
use Rattle.jx_geom.proofs.LeafLemmas.{cells_fit, leaves_high, leaves_low}
use Rattle.jx_geom.proofs.SpanLemmas.{cells_high, cells_high_none, cells_low}
use Rattle.jx_packet_header.specs.declared.BandCells.{BandCells}
use Rattle.jx_packet_header.specs.declared.HeaderPart.{HeaderPart}
use Rattle.jx_packet_header.specs.Written.{Leafed, parts_in}
use Rattle.jx_tier2_reader.specs.BlockOf.{pieces_at}
use Rattle.jx_generate.specs.Drawn.{drawn_at, first_pass, first_state, layer_pieces, pass_count, passes_in, past_passes, piece_in}
use Rattle.jx_generate.specs.Headers.{AreSizes, canvas_made, geometry_made, shape_made}
use Rattle.jx_generate.specs.Made.{bands_made, body_made, data_made, drawn_layer_bytes, drawn_leaf_bytes, header_made, layer_made, leaf_made, leaf_of_drawn, leaves_made, packet_made, resolution_made}
use Rattle.jx_generate.specs.Made.{file_made}
use Rattle.jx_generate.specs.Making.{pieces_bytes}
use Rattle.jx_generate.proofs.DrawnFits.{HasFew, count_few, first_next, fit_drawn, over_layers, passes_short}
use Rattle.jx_generate.proofs.GeometryLemmas.{IsSmall, IsWholeRect, block_across_6, block_down_6, component_whole, geometry_in_range, precinct_there, shape_at, whole_made}
use Rattle.jx_generate.proofs.HeaderBits.{AreOf13, HaveFew, header_few}
use Rattle.jx_generate.proofs.PrecinctLemmas.{all_13, cells_13}
use Rattle.jx_generate.proofs.WellLemmas.{body_few}

-- ---- lists that are joined
pub joined_few : {X : Type 0} (f : ℕ → List X) (most n : ℕ) → ((i : ℕ) → i < n → length (f i) ≤ most) → length (joined f 0 n) ≤ n * most
joined_few f most zero each = let e = ap length (joined_none f 0 0 (omega arith)) in omega arith
joined_few f most (suc n) each =
    let before : length (joined f 0 n) ≤ n * most = joined_few f most n (λ i lt. each i (omega arith)) in
    let last : length (f n) ≤ most = each n (omega arith) in
    let next : suc n ≡ n + 1 = omega arith in
    let whole : length (joined f 0 (suc n)) ≡ length (joined f 0 n) + length (f n) =
    ap (λ (k : ℕ). length (joined f 0 k)) next ∙ ap length (joined_next f 0 n (omega arith)) ∙ length-append (joined f 0 n) (f n) in
    more (length (joined f 0 (suc n))) (length (joined f 0 n)) (length (f n)) n most whole before last
  where
    more : (all first last n most : ℕ) → all ≡ first + last → first ≤ n * most → last ≤ most → all ≤ suc n * most
    more all first last n most e a b = grind arith

-- ---- a block's bytes in a layer: at most four passes of at most 23 bytes
four_in : (n a : ℕ) → n ≤ 37 → passes_in n a ≤ 4
unfolding first_pass
four_in n a few =
    let here : a * n ≤ ceil_of (a * n) 12 * 12 = ceil_from (a * n) 12 (ceil_of (a * n) 12) (omega arith) (omega arith) in
    let next : ceil_of ((a + 1) * n) 12 ≤ ceil_of (a * n) 12 + 4 = ceil_least ((a + 1) * n) 12 (ceil_of (a * n) 12 + 4) (omega arith) (below a n (ceil_of (a * n) 12) few here) in
    omega (arith, first_next n a, next)
  where
    below : (a n c : ℕ) → n ≤ 37 → a * n ≤ c * 12 → (a + 1) * n ≤ (c + 4) * 12
    below a n c few le = grind arith

took : (layer : ℕ) (q : PieceValue) (qs : List PieceValue) → q.layer ≡ layer → pieces_bytes layer (q ∷ qs) ≡ q.bytes ++ pieces_bytes layer qs
unfolding pieces_at
took layer q qs e = rw (eq-eqb q.layer layer e) refl

passed_over : (layer : ℕ) (q : PieceValue) (qs : List PieceValue) → (q.layer ≡ layer → ⊥) → pieces_bytes layer (q ∷ qs) ≡ pieces_bytes layer qs
unfolding pieces_at
passed_over layer q qs ne = rw (ne_eqb q.layer layer ne) refl

none_there : (layer : ℕ) → length (pieces_bytes layer []) ≡ 0
unfolding pieces_at
none_there layer = refl

-- of the pieces from a layer on
record HasFewBytes (layer a : ℕ) (qs : List PieceValue) : Type 0 where
  none : layer < a → length (pieces_bytes layer qs) ≡ 0
  few : length (pieces_bytes layer qs) ≤ 92

one_more : (layer y n a : ℕ) (qs : List PieceValue) → n ≤ 37 → HasFewBytes layer (a + 1) qs → HasFewBytes layer a (piece_in y n a ∷ qs)
one_more layer y n a qs few is = elim (cases_eq a layer) [
  | inl same ↦
      let bytes : length (piece_in y n a).bytes ≤ passes_in n a * 23 = passes_short (past_passes y (first_pass n a)) (passes_in n a) in
      let long : length (pieces_bytes layer (piece_in y n a ∷ qs)) ≡ length (piece_in y n a).bytes + length (pieces_bytes layer qs) =
      ap length (took layer (piece_in y n a) qs same) ∙ length-append (piece_in y n a).bytes (pieces_bytes layer qs) in
      record { none = λ lt. absurd (omega arith); few = omega (arith, long, bytes, four_in n a few, is.none (omega arith)) }
  | inr other ↦
      let same : length (pieces_bytes layer (piece_in y n a ∷ qs)) ≡ length (pieces_bytes layer qs) = ap length (passed_over layer (piece_in y n a) qs other) in
      record { none = λ lt. same ∙ is.none (omega arith); few = omega (arith, same, is.few) }
]

pieces_few : (layer y n : ℕ) → n ≤ 37 → HasFewBytes layer 0 (joined (layer_pieces y n) 0 12)
pieces_few layer y n few =
    over_layers (HasFewBytes layer) y n (record { none = λ lt. none_there layer; few = omega (arith, none_there layer) })
    (λ a qs lt none is. record { none = λ below. is.none (omega arith); few = is.few }) (λ a qs lt some is. one_more layer y n a qs few is) 12 0 (omega arith)

block_few : (layer x : ℕ) → length (drawn_layer_bytes layer (drawn_at x)) ≤ 92
unfolding drawn_layer_bytes drawn_at
block_few layer x = (pieces_few layer (first_state x) (pass_count x) (count_few x).2).few

-- and one part at most
one_part : (layer j x : ℕ) → length (parts_in layer (leaf_of_drawn j (drawn_at x)).parts) ≤ 1
one_part layer j x = by (parts_in layer (leaf_of_drawn j (drawn_at x)).parts) ((fit_drawn j x).few layer)
  where
    by : (ps : List HeaderPart) → HasFew ps → length ps ≤ 1
    by ps (inl none) = omega (arith, ap length none)
    by ps (inr (p, is)) = omega (arith, ap length is.one)

one_each : (layer : ℕ) (leaf : ℕ → Leafed) (a n : ℕ) → ((j : ℕ) → length (parts_in layer (leaf j).parts) ≤ 1) → HaveFew 1 layer (map leaf (range_with_len a n))
one_each layer leaf a zero each = tt
one_each layer leaf a (suc n) each = (each a, one_each layer leaf (a + 1) n each)

-- ---- a resolution's precinct has at most 3,072 blocks
two_at_least : (level : ℕ) → 1 ≤ level → 2 ≤ 2 ^ level
two_at_least zero some = absurd (omega arith)
two_at_least (suc level) some = omega (arith, pow_pos level)

half_span : (s : Span) (level off : ℕ) → 1 ≤ level → IsSmall s → (band_span s level off).high ≤ 2048
unfolding band_span
half_span s level off some small =
    let k : ℕ = s.high - off * 2 ^ (level - 1) in
    let below : k ≤ 4096 = omega (arith, small) in
    ceil_least k (2 ^ level) 2048 (pow_pos level) (enough k (2 ^ level) below (two_at_least level some))
  where
    enough : (k p : ℕ) → k ≤ 4096 → 2 ≤ p → k ≤ 2048 * p
    enough k p le some = omega arith

half_cells : (s : Span) → s.high ≤ 2048 → length_of (cells s 64) ≤ 32
half_cells s small = elim (cases_lt s.low s.high) [
  | inl some ↦ (let le : ceil_of s.high 64 ≤ 32 = ceil_least s.high 64 32 (omega arith) (omega arith) in omega (arith, cells_high s 64 some))
  | inr none ↦ omega (arith, cells_high_none s 64 none, cells_low s 64)
]

high_blocks : (t : Rect) (r : ℕ) (b : Band) → IsWholeRect t → r ≤ 5 → 1 ≤ band_level shape_made r b → block_count t shape_made r b ≤ 1024
unfolding block_cells band_rect
high_blocks t r b is le some =
    let c : IsWholeRect (component_rect t shape_made) = component_whole t is in
    let x : Span = band_span (component_rect t shape_made).x (band_level shape_made r b) (off_across b) in
    let y : Span = band_span (component_rect t shape_made).y (band_level shape_made r b) (off_down b) in
    let wide : length_of (cells x 64) ≤ 32 = half_cells x (half_span (component_rect t shape_made).x (band_level shape_made r b) (off_across b) some c.x.small) in
    let high : length_of (cells y 64) ≤ 32 = half_cells y (half_span (component_rect t shape_made).y (band_level shape_made r b) (off_down b) some c.y.small) in
    let product : length_of (cells x 64) * length_of (cells y 64) ≤ 32 * 32 = mul-le (length_of (cells x 64)) (length_of (cells y 64)) 32 32 wide high in
    let across : length_of (cells x (2 ^ block_across shape_made r)) ≡ length_of (cells x 64) = ap (λ (n : ℕ). length_of (cells x (2 ^ n))) (block_across_6 r le) in
    let down : length_of (cells y (2 ^ block_down shape_made r)) ≡ length_of (cells y 64) = ap (λ (n : ℕ). length_of (cells y (2 ^ n))) (block_down_6 r le) in
    rw (across, down) (omega arith)

blocks_of : (w h c r : ℕ) (b : Band) → AreSizes w h → c < 3 → r ≤ 5 → 1 ≤ band_level shape_made r b → block_count (rect_of_tile (geometry_made w h)) (shape_of (geometry_made w h) c) r b ≤ 1024
unfolding geometry_made
blocks_of w h c r b sizes lt le some =
    subst (λ (s : CompShape). block_count (tile_rect (canvas_made w h) 0) s r b ≤ 1024) (sym (shape_at c lt)) (high_blocks (tile_rect (canvas_made w h) 0) r b (whole_made w h sizes) le some)

pub few_leaves : (w h c r : ℕ) → AreSizes w h → c < 3 → r ≤ 5 → leaves (geometry_made w h) c r 0 ≤ 3072
few_leaves w h c r sizes lt le =
    let g : Geometry = geometry_made w h in
    let range : GeometryInRange g = geometry_in_range w h sizes in
    let there : HasPrecinct g c r 0 = precinct_there w h c r sizes lt le in
    elim (cases_lt 0 r) [
      | inl some ↦
          omega (
            arith,
            leaves_high g c r 0 some,
            cells_fit g c r 0 HL range there,
            cells_fit g c r 0 LH range there,
            cells_fit g c r 0 HH range there,
            blocks_of w h c r HL sizes lt le (omega arith),
            blocks_of w h c r LH sizes lt le (omega arith),
            blocks_of w h c r HH sizes lt le (omega arith),
          )
      | inr none ↦ omega (arith, leaves_low g c r 0 (omega arith), cells_fit g c r 0 LL range there, blocks_of w h c r LL sizes lt le (omega arith))
    ]

-- ---- a packet
of_13 : (bands : List BandCells) → AllByRecursion (λ (b : BandCells). b.planes ≡ 13) bands → AreOf13 bands
of_13 [] h = tt
of_13 (b ∷ bs) h = (omega (arith, h.0), of_13 bs h.1)

bands_13 : (w h c r : ℕ) → AreOf13 (bands_made w h c r)
unfolding bands_made
bands_13 w h c r = of_13 (cells_13 (geometry_made w h) c r (bands_at r)) (all_13 (geometry_made w h) c r (bands_at r))

leaves_one : (seed w h c r layer : ℕ) → HaveFew 1 layer (leaves_made seed w h c r)
unfolding leaves_made
leaves_one seed w h c r layer = one_each layer (leaf_made seed w h c r) 0 (leaves (geometry_made w h) c r 0) (λ j. one_part layer j _)

leaves_count : (seed w h c r : ℕ) → length (leaves_made seed w h c r) ≡ leaves (geometry_made w h) c r 0
unfolding leaves_made
leaves_count seed w h c r = length-map-range_with_len (leaf_made seed w h c r) 0 (leaves (geometry_made w h) c r 0)

header_short : (seed w h c r layer : ℕ) → layer < 12 → length (header_made seed w h c r layer) ≤ 146 * length (leaves_made seed w h c r) + 2
unfolding header_made
header_short seed w h c r layer lt =
    let few = header_few 1 1022 (omega arith) 12 0 (bands_made w h c r) (leaves_made seed w h c r) layer lt (bands_13 w h c r) (leaves_one seed w h c r) in omega (arith, few)

data_short : (seed w h c r layer : ℕ) → length (data_made seed w h c r layer) ≤ leaves (geometry_made w h) c r 0 * 92
unfolding data_made
data_short seed w h c r layer = joined_few (drawn_leaf_bytes seed w h c r layer) 92 (leaves (geometry_made w h) c r 0) (λ j lt. block_few layer _)

packet_short : (seed w h layer r c : ℕ) → AreSizes w h → layer < 12 → r < 6 → c < 3 → length (packet_made seed w h layer r c) ≤ 962562
unfolding packet_made
packet_short seed w h layer r c sizes below lower lt =
    omega (
      arith,
      length-append (header_made seed w h c r layer) (data_made seed w h c r layer),
      header_short seed w h c r layer below,
      data_short seed w h c r layer,
      leaves_count seed w h c r,
      few_leaves w h c r sizes lt (omega arith),
    )

-- ---- and all of them
resolution_short : (seed w h layer r : ℕ) → AreSizes w h → layer < 12 → r < 6 → length (resolution_made seed w h layer r) ≤ 2887686
unfolding resolution_made
resolution_short seed w h layer r sizes below lower = omega (arith, joined_few (packet_made seed w h layer r) 962562 3 (λ c lt. packet_short seed w h layer r c sizes below lower lt))

layer_short : (seed w h layer : ℕ) → AreSizes w h → layer < 12 → length (layer_made seed w h layer) ≤ 17326116
unfolding layer_made
layer_short seed w h layer sizes below = omega (arith, joined_few (resolution_made seed w h layer) 2887686 6 (λ r lt. resolution_short seed w h layer r sizes below lt))

pub body_short : (seed w h : ℕ) → AreSizes w h → length (body_made seed w h) ≤ 207913392
unfolding body_made
body_short seed w h sizes = omega (arith, joined_few (layer_made seed w h) 17326116 12 (λ layer lt. layer_short seed w h layer sizes lt))

pub file_short : (seed w h : ℕ) → AreSizes w h → length (file_made seed w h) ≤ 2 ^ 28
file_short seed w h sizes = body_few seed w h (omega (arith, body_short seed w h sizes))
