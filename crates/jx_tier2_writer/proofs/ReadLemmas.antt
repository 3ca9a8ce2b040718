-- A file that is written from headers and tile-parts spells the stream of these headers with the tile-parts, and nothing is
-- violated in its headers.
use Rattle.std.proofs.Common.{◌≡◌, ◌∙◌, ◌<◌, ◌+◌, ℕ, suc, Bool, false, arith, List, [], ◌∷◌, ◌++◌, length, map, drop, get_or, refl, sym, ap, subst, inl, inr, nat_lt, Option, None}
use Rattle.std.specs.List.{filter, find, flat_map, slice_get}
use Rattle.std.proofs.lemmas.Bool.{cases_Bool, cases_lt}
use Rattle.std.proofs.lemmas.List.FromFn.{get_or-map-range_with_len, length-map-range_with_len}
use Rattle.std.proofs.lemmas.Option.{slice_get-get_or, slice_get_past}
use Rattle.jx_base.specs.declared.pieces.Block.{Block}
use Rattle.jx_base.specs.Joined.{joined}
use Rattle.jx_marker.specs.declared.Progression.{Progression}
use Rattle.jx_marker.specs.declared.Segment.{Segment}
use Rattle.jx_marker.specs.declared.Segment.TheVariants as segment
use Rattle.jx_marker.specs.Segments.{spelling}
use Rattle.jx_progression.specs.declared.names.PacketName.{PacketName}
use Rattle.jx_codestream.specs.declared.Body.{Body}
use Rattle.jx_codestream.specs.declared.packed.PackedSegment.{PackedSegment}
use Rattle.jx_codestream.specs.declared.parts.PlacedPart.{PlacedPart}
use Rattle.jx_codestream.specs.declared.Stream.{Stream}
use Rattle.jx_codestream.specs.declared.Tile.{Tile}
use Rattle.jx_codestream.specs.First.{canvas_of, tile_number}
use Rattle.jx_codestream.specs.Params.{header_in, header_of, limit_4_of, tile_has_too_few, tile_planes}
use Rattle.jx_codestream.specs.Parts.{parts_of}
use Rattle.jx_codestream.specs.Read.{IsRead}
use Rattle.jx_codestream.specs.Shapes.{no_tile, tile_at}
use Rattle.jx_codestream.specs.Headers.{has_packed}
use Rattle.jx_codestream.specs.PackedHeaders.{shares_fault, with_shares}
use Rattle.jx_codestream.specs.Spells.{AreTileParts, TilePart, all_bytes, file_bytes, first_sot, main_packed, main_start, part_bytes, placed}
use Rattle.jx_codestream.specs.Tiles.{entry_in, first_header, headers_of, in_slot, is_com, or_list, progressions_of, tile_from, tile_of, tiles_of}
use Rattle.jx_codestream.specs.Tiles.{entries_joined}
use Rattle.jx_codestream.proofs.OneLemmas.{drop_on}
use Rattle.jx_codestream.proofs.ShapeLemmas.{siz_is}
use Rattle.jx_tile.specs.Covered.{IsListOf}
use Rattle.jx_tier2_reader.specs.Written.{AreFilled, Packets, bytes_from, packets_in}
use Rattle.jx_tier2_writer.specs.Lengths.{numbered}
use Rattle.jx_tier2_writer.specs.Ready.{AllShort, AreReady, AreShort, stream_with}
use Rattle.jx_options.specs.declared.Marks.{Marks}
use Rattle.jx_tier2_writer.specs.TileParts.{packet_length, packets_of, written_part_header, parts_with, tile_part, tile_parts}
use Rattle.jx_tier2_writer.specs.SameHeaders.{IsWithLengths}
use Rattle.jx_tier2_writer.proofs.HeldLemmas.{held_by}
use Rattle.jx_tier2_writer.proofs.AlikeLemmas.{AreAlike, all_planes_alike, few_alike}
use Rattle.jx_tier2_writer.proofs.FewLemmas.{few_packets, groups_few}
use Rattle.jx_tier2_writer.proofs.HeaderLemmas.{same_slots}
use Rattle.jx_tier2_writer.proofs.InPlaceLemmas.{none_packed}
use Rattle.jx_plan.specs.Changes.{entries_by, main_order}
use Rattle.jx_tier2_writer.proofs.MadeLemmas.{header_is, header_whole, made_entries, made_filled, made_in_place, made_long, made_notes, made_of}
use Rattle.jx_tier2_writer.proofs.PlaceLemmas.{AllOf, exact_all, none_lacks, parts_here, place_of, some_part, tile_bytes}
use Rattle.jx_tier2_writer.proofs.TurnLemmas.{AreOf, exact_parts}
use Rattle.jx_plan.proofs.PlanLemmas.{some_tile}
use Rattle.jx_codestream.proofs.RangeLemmas.{tile_of_is, few_tiles}

-- the tile-parts of a tile that are made of a list of its packets
pub record IsCutInto (m : Marks) (s : Stream) (blocks : List Block) (t : ℕ) (parts : List TilePart) (groups : List (List PacketName)) : Type 0 where
  pub order : IsListOf s t (packets_in groups)
  pub some : 0 < length groups
  pub few : length groups < 256
  pub are : parts ≡ tile_parts m s blocks t groups

-- ---- lists whose items a test can't tell apart
find_alike : (p : Tile → Bool) (d : Tile) (xs ys : List Tile) → length xs ≡ length ys → ((i : ℕ) → i < length xs → p (get_or ys i d) ≡ p (get_or xs i d)) → find p xs ≡ None → find p ys ≡ None
find_alike p d [] [] long same none = refl
find_alike p d [] (y ∷ ys) long same none = absurd (omega arith)
find_alike p d (x ∷ xs) [] long same none = absurd (omega arith)
find_alike p d (x ∷ xs) (y ∷ ys) long same none = elim (cases_Bool (p x)) [
  | inl t ↦ let e = rw t at none in absurd (cc)
  | inr f ↦
      let first : p y ≡ false = same 0 (omega arith) ∙ f in
      rw first (find_alike p d xs ys (omega arith) (λ i lt. same (suc i) (omega arith)) (rw f at none))
]

flat_alike : (f : Tile → List ℕ) (d : Tile) (xs ys : List Tile) → length xs ≡ length ys → ((i : ℕ) → i < length xs → f (get_or ys i d) ≡ f (get_or xs i d)) → flat_map f ys ≡ flat_map f xs
flat_alike f d [] [] long same = refl
flat_alike f d [] (y ∷ ys) long same = absurd (omega arith)
flat_alike f d (x ∷ xs) [] long same = absurd (omega arith)
flat_alike f d (x ∷ xs) (y ∷ ys) long same =
    let first : f y ≡ f x = same 0 (omega arith) in
    ap (λ (z : List ℕ). z ++ flat_map f ys) first ∙ ap (λ (z : List ℕ). f x ++ z) (flat_alike f d xs ys (omega arith) (λ i lt. same (suc i) (omega arith)))

tile_header : (tiles : List Tile) (t : ℕ) (d : Tile) → t < length tiles → header_in (slice_get tiles t) ≡ (get_or tiles t d).header
tile_header tiles t d lt = ap header_in (slice_get-get_or tiles t d lt)

enough_alike : (main : List Segment) (comps : ℕ) (tile other : Tile) → AreAlike tile.header other.header → tile_has_too_few main comps tile ≡ tile_has_too_few main comps other
unfolding tile_has_too_few
enough_alike main comps tile other alike = few_alike tile.header other.header alike main comps

planes_of_alike : (main : List Segment) (comps : ℕ) (tile other : Tile) → AreAlike tile.header other.header → tile_planes main comps tile ≡ tile_planes main comps other
unfolding tile_planes
planes_of_alike main comps tile other alike = all_planes_alike tile.header other.header alike main comps

-- ---- the first header
first_made : (m : Marks) (comps t : ℕ) (own : List Segment) (ps : Packets) (parts at : ℕ) (groups : List (List PacketName)) → 0 < length groups → has_packed own ≡ false
    → (held : List (List ℕ)) × (first_header (placed comps at (parts_with m comps t own ps 0 parts 0 groups)) ≡ own ++ numbered 0 held)
first_made m comps t own ps parts at [] some unpacked = absurd (omega arith)
first_made m comps t own ps parts at (names ∷ groups) some unpacked =
    let lengths : List ℕ = map (packet_length ps) names in
    (held_by m.plt lengths, header_whole m comps t own ps parts 0 lengths unpacked ∙ header_is m own 0 lengths)

notes_made : (m : Marks) (comps t : ℕ) (own : List Segment) (ps : Packets) (parts at : ℕ) (groups : List (List PacketName))
    → filter is_com (headers_of (drop 1 (placed comps at (parts_with m comps t own ps 0 parts 0 groups)))) ≡ []
notes_made m comps t own ps parts at [] = refl
notes_made m comps t own ps parts at (names ∷ groups) =
    let p : TilePart = tile_part comps t 0 parts (written_part_header m own 0 (map (packet_length ps) names)) (bytes_from ps 0 names) in
    made_notes m comps t own ps parts 1 (0 + length names) (at + length (part_bytes comps p)) groups (omega arith)

entries_are : (main : List Segment) (own : List PlacedPart) (header : List Segment) → entries_joined (headers_of own) ≡ entries_joined header → in_slot 1 (first_header own) ≡ in_slot 1 header
    → progressions_of main own ≡ entries_by (main_order main) header
entries_are main own header joined alike =
    ap (λ (z : List Progression). or_list z (or_list (entries_joined main) (or_list (entry_in (in_slot 1 (first_header own))) (entry_in (in_slot 1 main))))) joined
    ∙ ap (λ (z : Option Segment). or_list (entries_joined header) (or_list (entries_joined main) (or_list (entry_in z) (entry_in (in_slot 1 main))))) alike

module _ (m : Marks) (s : Stream) (blocks : List Block) (b : List ℕ) (parts : ℕ → List TilePart) (groups : ℕ → List (List PacketName)) (ready : AreReady m s)
    (cut : (t : ℕ) → t < tile_number s.siz → IsCutInto m s blocks t (parts t) (groups t)) (short : AllShort parts (tile_number s.siz))
    (whole : b ≡ file_bytes s.siz s.main (joined parts 0 (tile_number s.siz)) []) where
  abbrev pub comps : ℕ
  comps = length s.siz.comps

  abbrev pub tiles : ℕ
  tiles = tile_number s.siz

  abbrev pub start : ℕ
  start = first_sot s.siz s.main

  abbrev pub all_parts : List TilePart
  all_parts = joined parts 0 tiles

  abbrev all_placed : List PlacedPart
  all_placed = placed comps start all_parts

  -- the stream that is read
  abbrev pub it : Stream
  it = stream_with s all_parts

  abbrev made : ℕ → List TilePart
  made t = tile_parts m s blocks t (groups t)

  made_count : (t : ℕ) → length (made t) ≡ length (groups t)
  made_count t = made_long m comps t (header_of s t) (packets_of m s t blocks) (length (groups t)) 0 0 (groups t)

  parts_count : (t : ℕ) → t < tiles → length (parts t) ≡ length (groups t)
  parts_count t lt = ap (λ (z : List TilePart). length z) (cut t lt).are ∙ made_count t

  -- each tile has its tile-parts
  pub all_of : AllOf comps parts tiles
  all_of t lt =
      let is = cut t lt in
      let here : AreShort (made t) = subst (λ (z : List TilePart). AreShort z) is.are (short t lt) in
      let are : AreOf comps t (length (groups t)) 0 (made t) = made_of m comps t (header_of s t) (packets_of m s t blocks) (length (groups t)) 0 0 (groups t)
      (ready.tiles t lt).header (groups_few (groups t) (few_packets s t (packets_in (groups t)) ready.totals lt is.order)) here in
      let P : List TilePart → Type 0 = λ z. AreOf comps t (length z) 0 z in
      let Q : ℕ → Type 0 = λ n. AreOf comps t n 0 (made t) in
      subst P (sym is.are) (subst Q (sym (made_count t)) are)

  -- where those of a tile stand
  abbrev own_parts : ℕ → List PlacedPart
  own_parts t = placed comps (place_of comps parts start t) (made t)

  own_are : (t : ℕ) → t < tiles → parts_of t all_placed ≡ own_parts t
  own_are t lt = parts_here comps parts t start tiles lt all_of ∙ ap (λ (z : List TilePart). placed comps (place_of comps parts start t) z) (cut t lt).are

  tile_is : (t : ℕ) → t < tiles → get_or it.tiles t no_tile ≡ tile_from s.main (own_parts t)
  tile_is t lt =
      get_or-map-range_with_len (tile_of s.main all_placed) 0 tiles t t no_tile lt (let e : 0 + t ≡ t = omega arith in e)
      ∙ tile_of_is s.main all_placed t ∙ ap (λ (z : List PlacedPart). tile_from s.main z) (own_are t lt)

  count_tiles : length it.tiles ≡ tiles
  count_tiles = length-map-range_with_len (tile_of s.main all_placed) 0 tiles

  -- ---- the same parameters
  first_alike : (t : ℕ) → t < tiles → AreAlike (first_header (own_parts t)) (header_of s t)
  first_alike t lt slot some =
      let found = first_made m comps t (header_of s t) (packets_of m s t blocks) (length (groups t)) (place_of comps parts start t) (groups t) (cut t lt).some (ready.tiles t lt).in_place in
      ap (λ (z : List Segment). in_slot slot z) found.1 ∙ same_slots slot 0 (header_of s t) found.0 some

  header_now : (t : ℕ) → t < tiles → header_in (slice_get it.tiles t) ≡ first_header (own_parts t)
  header_now t lt = tile_header it.tiles t no_tile (omega (arith, count_tiles)) ∙ ap (λ (x : Tile). x.header) (tile_is t lt)

  pub alike : (t : ℕ) → AreAlike (header_in (slice_get it.tiles t)) (header_of s t)
  alike t slot some = elim (cases_lt t tiles) [
    | inl lt ↦ ap (λ (z : List Segment). in_slot slot z) (header_now t lt) ∙ first_alike t lt slot some
    | inr past ↦
        let none : slice_get it.tiles t ≡ None = slice_get_past it.tiles t (omega (arith, count_tiles)) in
        let none_old : slice_get s.tiles t ≡ None = slice_get_past s.tiles t (omega (arith, ready.count)) in
        ap (λ (z : Option Tile). in_slot slot (header_in z)) none ∙ ap (λ (z : Option Tile). in_slot slot (header_in z)) (sym none_old)
  ]

  tiles_alike : (t : ℕ) → t < length s.tiles → AreAlike (get_or it.tiles t no_tile).header (get_or s.tiles t no_tile).header
  tiles_alike t lt slot some =
      let inside : t < tiles = omega (arith, ready.count) in
      ap (λ (x : Tile). in_slot slot x.header) (tile_is t inside) ∙ first_alike t inside slot some ∙ ap (λ (z : List Segment). in_slot slot z) (tile_header s.tiles t no_tile lt)

  same_count : length s.tiles ≡ length it.tiles
  same_count = ready.count ∙ sym count_tiles

  enough : find (tile_has_too_few s.main comps) it.tiles ≡ None
  enough =
      find_alike (tile_has_too_few s.main comps) no_tile s.tiles it.tiles same_count
      (λ t lt. enough_alike s.main comps (get_or it.tiles t no_tile) (get_or s.tiles t no_tile) (tiles_alike t lt)) ready.enough

  planes_few : limit_4_of (find (nat_lt 74) (flat_map (tile_planes s.main comps) it.tiles)) ≡ None
  planes_few =
      ap (λ (z : List ℕ). limit_4_of (find (nat_lt 74) z))
      (flat_alike (tile_planes s.main comps) no_tile s.tiles it.tiles same_count
      (λ t lt. planes_of_alike s.main comps (get_or it.tiles t no_tile) (get_or s.tiles t no_tile) (tiles_alike t lt)))
      ∙ ready.planes

  pub progressions_same : (t : ℕ) → t < tiles → (tile_at it t).progressions ≡ (tile_at s t).progressions
  progressions_same t lt =
      ap (λ (x : Tile). x.progressions) (tile_is t lt)
      ∙ entries_are s.main (own_parts t) (header_of s t)
      (made_entries m comps t (header_of s t) (packets_of m s t blocks) (length (groups t)) 0 (place_of comps parts start t) (groups t) (cut t lt).some (ready.tiles t lt).in_place) (first_alike t lt 1 (omega arith))
      ∙ sym (ready.tiles t lt).progressions

  pub header_with : (t : ℕ) → t < tiles → IsWithLengths (header_of s t) (header_of it t)
  header_with t lt =
      let found = first_made m comps t (header_of s t) (packets_of m s t blocks) (length (groups t)) (place_of comps parts start t) (groups t) (cut t lt).some (ready.tiles t lt).in_place in
      (found.0, header_now t lt ∙ found.1)

  pub no_notes : (t : ℕ) → t < tiles → (tile_at it t).notes ≡ []
  no_notes t lt = ap (λ (x : Tile). x.notes) (tile_is t lt) ∙ notes_made m comps t (header_of s t) (packets_of m s t blocks) (length (groups t)) (place_of comps parts start t) (groups t)

  -- each packet header stands before its packet
  pub in_place : (t : ℕ) → t < tiles → (tile_at it t).heads ≡ None
  in_place t lt =
      ap (λ (x : Tile). x.heads) (tile_is t lt)
      ∙ made_in_place m comps t (header_of s t) (packets_of m s t blocks) (length (groups t)) 0 0 (place_of comps parts start t) (groups t) (ready.tiles t lt).in_place

  -- ---- the file
  some_in : (t : ℕ) → t < tiles → 0 < length (parts t)
  some_in t lt = omega (arith, parts_count t lt, (cut t lt).some)

  few_in : (t : ℕ) → t < tiles → length (parts t) < 256
  few_in t lt = omega (arith, parts_count t lt, (cut t lt).few)

  some_tiles : 0 < tiles
  some_tiles = some_tile (canvas_of s.siz) (siz_is s.siz ready.siz.fits).canvas

  none_apart : main_packed s.siz s.main ≡ []
  none_apart = none_packed comps (main_start s.siz) s.main ready.in_place

  pub is_read : IsRead b it
  is_read = record {
    spelled = record {
      parts = all_parts;
      rest = [];
      bytes = whole;
      siz = ready.siz;
      main = ready.main;
      defaults = ready.defaults;
      some = some_part comps parts tiles some_tiles some_in;
      tile_parts = subst (λ (packed : Bool). AreTileParts packed comps tiles [] [] start all_parts) (sym ready.in_place)
          (exact_parts comps tiles [] [] start all_parts (exact_all comps parts tiles start tiles (omega arith) (omega (arith, few_tiles s.siz ready.few_tiles)) all_of few_in));
      each = none_lacks comps parts start tiles all_of some_in;
      packed = ap (λ (xs : List PackedSegment). shares_fault b xs all_placed) none_apart;
      tiles = ap (λ (xs : List PackedSegment). tiles_of s.main (with_shares b xs all_placed) tiles) (sym none_apart);
      entries = enough;
    };
    tiles = ready.few_tiles;
    planes = planes_few;
  }

  -- ---- the tiles' data
  pub parts_there : drop start b ≡ flat_map (part_bytes comps) all_parts ++ (spelling 1 segment.Eoc ++ [])
  parts_there =
      let siz : List ℕ = spelling 1 (segment.Siz s.siz) in
      let main : List ℕ = all_bytes comps s.main in
      let rest : List ℕ = flat_map (part_bytes comps) all_parts ++ (spelling 1 segment.Eoc ++ []) in
      let first : drop 2 b ≡ siz ++ (main ++ rest) = ap (λ (x : List ℕ). drop 2 x) whole in
      let second : drop (2 + length siz) b ≡ main ++ rest = drop_on b 2 (length siz) siz (main ++ rest) first refl in
      drop_on b (2 + length siz) (length main) main rest second refl

  pub filled : (t : ℕ) → t < tiles → AreFilled b (packets_of m s t blocks) 0 (tile_at it t).bodies (groups t)
  filled t lt =
      let there = tile_bytes comps parts b start tiles (spelling 1 segment.Eoc ++ []) parts_there t lt in
      let place : ℕ = place_of comps parts start t in
      let bytes : drop place b ≡ flat_map (part_bytes comps) (made t) ++ there.0 = there.1 ∙ ap (λ (z : List TilePart). flat_map (part_bytes comps) z ++ there.0) (cut t lt).are in
      let bodies : (tile_at it t).bodies ≡ map (λ (p : PlacedPart). p.body) (own_parts t) = ap (λ (x : Tile). x.bodies) (tile_is t lt) in
      subst (λ (z : List Body). AreFilled b (packets_of m s t blocks) 0 z (groups t)) (sym bodies)
      (made_filled m comps t (header_of s t) (packets_of m s t blocks) (length (groups t)) b 0 0 place (groups t) there.0 bytes)
