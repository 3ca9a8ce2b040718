-- The packets of a made file are written as jx_tier2_reader's laws for writers ask.
use Rattle.std.proofs.Common.{◌≡◌, ◌∙◌, ℕ, zero, suc, ◌+◌, ◌/◌, ◌-◌, ◌≤◌, ◌<◌, List, [], ◌∷◌, ◌++◌, length, map, take, drop, replicate, refl, sym, ap, subst, arith, append-nil, append_assoc}
use Rattle.std.specs.Prelude.{slice_index}
use Rattle.std.specs.List.{flat_map}
use Rattle.std.proofs.lemmas.List.{get_or-replicate}
use Rattle.std.proofs.Math.Seq.{take-append_seam}
use Rattle.jx_base.specs.declared.names.Band.{Band}
use Rattle.jx_base.specs.declared.names.Band.TheVariants.{LL, HL, LH, HH}
use Rattle.jx_base.specs.Bands.{bands_at}
use Rattle.jx_base.specs.Joined.{joined, joined_below}
use Rattle.jx_base.proofs.Joined.{joined_same}
use Rattle.jx_geom.specs.Geometry.{Geometry}
use Rattle.jx_geom.specs.Precincts.{HasPrecinct, cells_at, leaf_number, leaves}
use Rattle.jx_packet_header.specs.declared.BandCells.{BandCells}
use Rattle.jx_packet_header.specs.LeavesFit.{parts_at}
use Rattle.jx_packet_header.specs.Precinct.{fresh_state}
use Rattle.jx_packet_header.proofs.AgreeLemmas.{written_is_read}
use Rattle.jx_marker.specs.Codes.{EOC}
use Rattle.jx_marker.specs.Values.{canvas_bytes}
use Rattle.jx_progression.specs.declared.names.PacketName.{PacketName}
use Rattle.jx_progression.specs.Packets.{IsPacketName}
use Rattle.jx_progression.specs.Steps.{name_of}
use Rattle.jx_codestream.specs.declared.Stream.{Stream}
use Rattle.jx_codestream.specs.Params.{planes_at, planes_of, number_of}
use Rattle.jx_codestream.specs.Shapes.{geometry, layers_of, style_of}
use Rattle.jx_tile.specs.Cells.{precinct_bands, sizes_of}
use Rattle.jx_tier2_reader.specs.Fresh.{fresh_precinct}
use Rattle.jx_tier2_reader.specs.Written.{AreFilled, AreWritten, IsWritten, bytes_from, packet_bytes}
use Rattle.jx_tier2_reader.proofs.PlannedLemmas.{parts_of_pieces}
use Rattle.jx_generate.specs.Drawn.{state_before}
use Rattle.jx_generate.specs.Headers.{AreSizes, geometry_made, qcd_made}
use Rattle.jx_generate.specs.Made.{bands_made, body_made, data_made, file_with, header_made, drawn_layer_bytes, layer_made, leaf_drawn, leaf_made, leaves_made, packet_made, resolution_made}
use Rattle.jx_generate.specs.Packets.{layer_names, names_made, one_name, packets_made, resolution_names}
use Rattle.jx_generate.specs.Reading.{stream_made, tile_made}
use Rattle.jx_generate.proofs.DrawnFits.{drawn_clear}
use Rattle.jx_tier2_reader.proofs.FillLemmas.{Fills}
use Rattle.jx_generate.proofs.FillLemmas.{leaves_filled}
use Rattle.jx_generate.proofs.GeometryLemmas.{level_5, precincts_made, three_shapes}
use Rattle.jx_generate.proofs.OrderLemmas.{packet_fields}
use Rattle.jx_generate.proofs.PrecinctLemmas.{bands_in_range, leaves_fit, leaves_typed}
use Rattle.jx_generate.proofs.ReadLemmas.{geometry_is, layers_are}

-- ---- a packet's bytes
data_filled : (seed w h c r layer : ℕ) → Fills (parts_at layer (leaves_made seed w h c r)) (data_made seed w h c r layer)
unfolding leaves_made data_made drawn_layer_bytes
data_filled seed w h c r layer =
    let g : Geometry = geometry_made w h in
    leaves_filled layer (leaf_made seed w h c r) (λ j. (leaf_drawn seed w h c r j).pieces) (leaves g c r 0)
    (λ j. parts_of_pieces layer j (leaf_drawn seed w h c r j).pieces) (λ j. drawn_clear (state_before seed (leaf_number g c r 0 j)))

packet_written : (seed w h : ℕ) (p : PacketName) → AreSizes w h → IsPacketName (geometry_made w h) 12 p → IsWritten (packets_made seed w h) p
unfolding packets_made header_made
packet_written seed w h p sizes is =
    let f = packet_fields w h p sizes is in
    let fills : Fills (parts_at p.layer (leaves_made seed w h p.comp p.res)) (data_made seed w h p.comp p.res p.layer) = data_filled seed w h p.comp p.res p.layer in
    record {
      header = λ rest.
          (written_is_read 12 0 p.layer (bands_made w h p.comp p.res) (leaves_made seed w h p.comp p.res) rest (bands_in_range w h p.comp p.res sizes f.2 (let lt = f.0 in omega arith))
          (leaves_fit seed w h p.comp p.res) (leaves_typed seed w h p.comp p.res) f.1).stands;
      long = fills.long;
      clear = fills.clear;
    }

-- ---- before the first
planes_n : (n : ℕ) → n < 16 → planes_of qcd_made 5 0 n ≡ 13
planes_n n lt =
    let e : slice_index (replicate 16 28416) n ≡ 28416 = get_or-replicate 16 n 28416 0 lt in
    ap (λ (x : ℕ). (1 + x / 2048 - 1) + 0) e

planes_own : (w h size c r : ℕ) (b : Band) → c < 3 → planes_at (stream_made w h size) 0 c r b ≡ planes_of qcd_made 5 0 (number_of r b)
unfolding stream_made
planes_own w h size zero r b lt = refl
planes_own w h size (suc zero) r b lt = refl
planes_own w h size (suc (suc zero)) r b lt = refl
planes_own w h size (suc (suc (suc c))) r b lt = absurd (omega arith)

number_few : (r : ℕ) (b : Band) → r ≤ 5 → number_of r b < 16
number_few r LL le = omega arith
number_few r HL le = omega arith
number_few r LH le = omega arith
number_few r HH le = omega arith

pub planes_13 : (w h size c r : ℕ) (b : Band) → c < 3 → r ≤ 5 → planes_at (stream_made w h size) 0 c r b ≡ 13
planes_13 w h size c r b lt le = planes_own w h size c r b lt ∙ planes_n (number_of r b) (number_few r b le)

pub style_0 : (w h size c : ℕ) → c < 3 → style_of (stream_made w h size) 0 c ≡ 0
unfolding stream_made
style_0 w h size zero lt = refl
style_0 w h size (suc zero) lt = refl
style_0 w h size (suc (suc zero)) lt = refl
style_0 w h size (suc (suc (suc c))) lt = absurd (omega arith)

sizes_same : (s : Stream) (g : Geometry) (c r : ℕ) (bands : List Band) → ((b : Band) → planes_at s g.tile c r b ≡ 13)
    → map (λ (b : Band). sizes_of (cells_at g c r 0 b) (planes_at s g.tile c r b)) bands ≡ map (λ (b : Band). sizes_of (cells_at g c r 0 b) 13) bands
sizes_same s g c r [] planes = refl
sizes_same s g c r (b ∷ bands) planes =
    ap (λ (n : ℕ). sizes_of (cells_at g c r 0 b) n ∷ map (λ (x : Band). sizes_of (cells_at g c r 0 x) (planes_at s g.tile c r x)) bands) (planes b)
    ∙ ap (λ (xs : List BandCells). sizes_of (cells_at g c r 0 b) 13 ∷ xs) (sizes_same s g c r bands planes)

bands_same : (w h size c r : ℕ) → c < 3 → r ≤ 5 → precinct_bands (stream_made w h size) (geometry_made w h) c r 0 ≡ bands_made w h c r
unfolding precinct_bands bands_made geometry_made
bands_same w h size c r lt le = sizes_same (stream_made w h size) (geometry_made w h) c r (bands_at r) (λ b. planes_13 w h size c r b lt le)

tile_0 : (w h : ℕ) → (geometry_made w h).tile ≡ 0
unfolding geometry_made
tile_0 w h = refl

fresh_is : (seed w h size c r k : ℕ) → AreSizes w h → HasPrecinct (geometry_made w h) c r k
    → (packets_made seed w h).before (name_of 0 r c k) ≡ fresh_precinct (stream_made w h size) (geometry_made w h) c r k
unfolding packets_made
fresh_is seed w h size c r k sizes has =
    let s : Stream = stream_made w h size in
    let g : Geometry = geometry_made w h in
    let lt : c < 3 = three_shapes w h c has.resolution.component in
    let le : r ≤ 5 = level_5 w h c r lt has.resolution.level in
    let first : k ≡ 0 = omega (arith, has.precinct, precincts_made w h c r sizes lt le) in
    let style : style_of s g.tile c ≡ 0 = ap (λ (t : ℕ). style_of s t c) (tile_0 w h) ∙ style_0 w h size c lt in
    ap (fresh_state 0) (sym (ap (precinct_bands s g c r) first ∙ bands_same w h size c r lt le)) ∙ ap (λ (z : ℕ). fresh_state z (precinct_bands s g c r k)) (sym style)

pub all_written : (seed w h size : ℕ) → AreSizes w h → AreWritten (stream_made w h size) 0 (packets_made seed w h)
all_written seed w h size sizes =
    let s : Stream = stream_made w h size in
    let same : geometry_made w h ≡ geometry s 0 = sym (geometry_is w h size) in
    let P : Geometry → Type 0 = λ g. (c r k : ℕ) → HasPrecinct g c r k → (packets_made seed w h).before (name_of 0 r c k) ≡ fresh_precinct s g c r k in
    let Q : Geometry → Type 0 = λ g. (p : PacketName) → IsPacketName g (layers_of s 0) p → IsWritten (packets_made seed w h) p in
    let R : ℕ → Type 0 = λ n. (p : PacketName) → IsPacketName (geometry_made w h) n p → IsWritten (packets_made seed w h) p in
    record {
      first = subst P same (λ c r k has. fresh_is seed w h size c r k sizes has);
      each = subst Q same (subst R (sym (layers_are w h size)) (λ p is. packet_written seed w h p sizes is));
    }

-- ---- the tile data
module _ (seed w h : ℕ) where
  abbrev bytes_at : PacketName → List ℕ
  bytes_at p = packet_made seed w h p.layer p.res p.comp

  one_packet : (n : ℕ) (p : PacketName) → packet_bytes n ((packets_made seed w h).written p) ≡ bytes_at p
  unfolding packets_made packet_made
  one_packet n p = refl

  any_number : (n : ℕ) (list : List PacketName) → bytes_from (packets_made seed w h) n list ≡ flat_map bytes_at list
  any_number n [] = refl
  any_number n (p ∷ list) =
      ap (λ (xs : List ℕ). xs ++ bytes_from (packets_made seed w h) (n + 1) list) (one_packet n p) ∙ ap (λ (xs : List ℕ). bytes_at p ++ xs) (any_number (n + 1) list)

  flat_append : (xs ys : List PacketName) → flat_map bytes_at (xs ++ ys) ≡ flat_map bytes_at xs ++ flat_map bytes_at ys
  flat_append [] ys = refl
  flat_append (x ∷ xs) ys = ap (λ (zs : List ℕ). bytes_at x ++ zs) (flat_append xs ys) ∙ sym (append_assoc (bytes_at x) (flat_map bytes_at xs) (flat_map bytes_at ys))

  flat_below : (f : ℕ → List PacketName) (n : ℕ) → flat_map bytes_at (joined_below f 0 n) ≡ joined_below (λ i. flat_map bytes_at (f i)) 0 n
  flat_below f zero = refl
  flat_below f (suc n) = flat_append (joined_below f 0 n) (f (0 + n)) ∙ ap (λ (xs : List ℕ). xs ++ flat_map bytes_at (f (0 + n))) (flat_below f n)

  flat_joined : (f : ℕ → List PacketName) (n : ℕ) → flat_map bytes_at (joined f 0 n) ≡ joined (λ i. flat_map bytes_at (f i)) 0 n
  unfolding joined
  flat_joined f n = flat_below f (n - 0)

  resolution_flat : (l r : ℕ) → flat_map bytes_at (resolution_names l r) ≡ resolution_made seed w h l r
  unfolding resolution_names resolution_made
  resolution_flat l r =
      flat_joined (one_name l r) 3 ∙ joined_same (λ c. flat_map bytes_at (one_name l r c)) (packet_made seed w h l r) 3 (λ c lt. append-nil (packet_made seed w h l r c))

  layer_flat : (l : ℕ) → flat_map bytes_at (layer_names l) ≡ layer_made seed w h l
  unfolding layer_names layer_made
  layer_flat l = flat_joined (resolution_names l) 6 ∙ joined_same (λ r. flat_map bytes_at (resolution_names l r)) (resolution_made seed w h l) 6 (λ r lt. resolution_flat l r)

  pub body_is : bytes_from (packets_made seed w h) 0 names_made ≡ body_made seed w h
  unfolding names_made body_made
  body_is =
      any_number 0 (joined layer_names 0 12) ∙ flat_joined layer_names 12 ∙ joined_same (λ l. flat_map bytes_at (layer_names l)) (layer_made seed w h) 12 (λ l lt. layer_flat l)

-- ---- where they stand
rest_of_file : (w h : ℕ) (body : List ℕ) → drop 124 (file_with w h body) ≡ (body ++ []) ++ (0xFF ∷ EOC ∷ [])
unfolding file_with canvas_bytes
rest_of_file w h body = refl

data_window : (w h : ℕ) (body : List ℕ) → take (length body) (drop 124 (file_with w h body)) ≡ body
data_window w h body =
    ap (take (length body)) (rest_of_file w h body) ∙ ap (λ (xs : List ℕ). take (length body) (xs ++ (0xFF ∷ EOC ∷ []))) (append-nil body) ∙ take-append_seam body (0xFF ∷ EOC ∷ [])

pub all_filled : (seed w h : ℕ) → AreFilled (file_with w h (body_made seed w h)) (packets_made seed w h) 0 (tile_made (length (body_made seed w h))).bodies (names_made ∷ [])
all_filled seed w h = (
  data_window w h (body_made seed w h) ∙ sym (body_is seed w h),
  ap (λ (xs : List ℕ). length xs) (sym (body_is seed w h)),
  tt,
)
