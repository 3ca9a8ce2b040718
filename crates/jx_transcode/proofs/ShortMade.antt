-- A generated codestream that is written anew in one layer has no tile-part of 2^32 bytes: in each of six tile-parts three packets, of at most
-- 3,072 code-blocks with at most 309,123 coded bytes and 37 parts each.
use Rattle.std.proofs.Common.{◌≡◌, ◌∙◌, ℕ, zero, suc, ◌+◌, ◌*◌, ◌≤◌, ◌<◌, ◌==◌, nat_le, Bool, true, false, List, [], ◌∷◌, ◌++◌, length, map, All, refl, sym, ap, subst, arith, inl, inr, Option, None, Some, if◌then◌else◌}
use Rattle.std.specs.Prelude.{slice_get}
use Rattle.std.specs.List.{flat_map, range_with_len}
use Rattle.std.specs.Option.{option_map}
use Rattle.std.proofs.lemmas.Bool.{cases_Bool}
use Rattle.std.proofs.lemmas.List.{length-append}
use Rattle.std.proofs.lemmas.List.FromFn.{length-map-range_with_len}
use Rattle.std.proofs.lemmas.List.Sums.{sum_by-cons}
use Rattle.std.proofs.lemmas.Option.{get_or_from_slice_get, slice_get_within}
use Rattle.jx_base.specs.declared.names.Band.{Band}
use Rattle.jx_base.specs.declared.names.Rect.{Rect}
use Rattle.jx_base.specs.declared.pieces.Block.{Block}
use Rattle.jx_base.specs.declared.style.Style.{Style}
use Rattle.jx_base.specs.Bands.{bands_at}
use Rattle.jx_base.specs.Joined.{joined}
use Rattle.jx_base.specs.Passes.{bypasses}
use Rattle.jx_base.specs.Pieces.{ArePieces, PieceValue, bytes_in}
use Rattle.jx_base.specs.Places.{length_of, size_of}
use Rattle.jx_base.specs.Sound.{IsSound}
use Rattle.jx_marker.specs.declared.Segment.{Segment}
use Rattle.jx_marker.specs.declared.Segment.TheVariants as segment
use Rattle.jx_marker.specs.Segments.{spelling}
use Rattle.byteorder.specs.Endian.{big_bytes}
use Rattle.jx_geom.specs.Geometry.{Geometry}
use Rattle.jx_geom.specs.Precincts.{cells_at, leaves}
use Rattle.jx_packet_header.specs.declared.BandCells.{BandCells}
use Rattle.jx_packet_header.specs.Written.{Leafed, parts_in}
use Rattle.jx_packet_header.proofs.PutLemmas.{size_le}
use Rattle.jx_packet_header.specs.Words.{size}
use Rattle.jx_progression.specs.declared.names.PacketName.{PacketName}
use Rattle.jx_progression.specs.Packets.{IsOrder}
use Rattle.jx_progression.specs.Steps.{name_of}
use Rattle.jx_codestream.specs.declared.Stream.{Stream}
use Rattle.jx_codestream.specs.Params.{header_of, planes_at}
use Rattle.jx_codestream.specs.Shapes.{geometry, layers_of, shapes_in, style_of}
use Rattle.jx_codestream.specs.Spells.{all_bytes}
use Rattle.jx_tile.specs.Cells.{precinct_bands, sizes_of}
use Rattle.jx_tier2_reader.specs.BlockOf.{pieces_at}
use Rattle.jx_tier2_reader.specs.Carries.{block_in, carried_bytes, pieces_of}
use Rattle.jx_tier2_reader.specs.Planned.{leaf_from, leaf_in, leaf_part_of, leaves_of_blocks}
use Rattle.jx_tier2_reader.specs.Written.{Packets, WrittenPacket, bytes_from, packet_bytes}
use Rattle.jx_codeblock.specs.declared.LayerEnd.{LayerEnd}
use Rattle.jx_codeblock.specs.Jobs.{IsAsked}
use Rattle.jx_codeblock.specs.Recoding.{Recoding, recoded_pieces, recoding, wrong_in}
use Rattle.jx_codeblock.specs.Written.{block_with, style_for, written_in}
use Rattle.jx_plan.specs.Causal.{breaks_plane}
use Rattle.jx_plan.specs.Layers.{ends_of, written_by}
use Rattle.jx_layers.specs.Rule.{Rule}
use Rattle.jx_options.specs.declared.PartChoice.TheVariants as part
use Rattle.jx_options.specs.declared.Marks.{Marks}
use Rattle.jx_tile_parts.specs.Groups.{groups_of}
use Rattle.jx_plan.specs.Headers.{stream_written}
use Rattle.jx_plan.specs.Plan.{headers_with}
use Rattle.jx_generate.specs.Headers.{AreSizes}
use Rattle.jx_generate.specs.OneLayer.{entry_of_layers}
use Rattle.jx_generate.specs.Packets.{layer_names, resolution_names}
use Rattle.jx_generate.specs.Plain.{IsPlain}
use Rattle.jx_generate.specs.Reading.{stream_made}
use Rattle.jx_generate.proofs.HeaderBits.{AreOf13, HaveFew, header_few}
use Rattle.jx_generate.proofs.ShortLemmas.{joined_few}
use Rattle.jx_generate.proofs.WrittenLemmas.{planes_13}
use Rattle.jx_tier2_writer.specs.Lengths.{filled, length_bytes, length_segments, length_size, numbered, septets}
use Rattle.jx_tier2_writer.specs.Ready.{AreShort}
use Rattle.jx_tier2_writer.specs.TileParts.{packet_length, packet_of, packets_of, parts_with, tile_parts, written_part_header}
use Rattle.jx_transcode.specs.MakeRun.{wanted_made}

abbrev asked : Style
asked = record { bits = 33 }

abbrev marks : Marks
marks = wanted_made.marks

-- what the laws of the crates below say of code-blocks as they are written, and of what is generated
pub record ShortLaws : Type 0 where
  pub order : (w h size : ℕ) (names : List PacketName) → AreSizes w h → IsOrder (geometry (stream_made w h size) 0) 1 (entry_of_layers 1 ∷ []) 1 names → names ≡ layer_names 0
  pub few : (w h size c r : ℕ) → AreSizes w h → c < 3 → r < 6 → leaves (geometry (stream_made w h size) 0) c r 0 ≤ 3072
  pub each : (style : Option Style) (rule : Rule) (layers : ℕ) (blocks : List Block) (n : ℕ)
      → slice_get (written_by style rule layers blocks) n ≡ option_map (λ (b : Block). written_in style (ends_of rule layers blocks n b) b) (slice_get blocks n)
  pub may : (style : Option Style) (rule : Rule) (layers : ℕ) (blocks : List Block) (number : ℕ) (b : Block) → 1 ≤ layers → IsSound b
      → breaks_plane style b ≡ false → IsAsked b (style_for style b) (ends_of rule layers blocks number b)
  pub short : (b : Block) (style : Style) (ends : List LayerEnd) (r : Recoding) → IsAsked b (Some style) ends → Some r ≡ recoding b (Some style) ends
      → bypasses style.bits ≡ true → b.passes ≤ 37 → bytes_in (recoded_pieces r) ≤ 309123
  pub sound : (b : Block) (style : Style) (ends : List LayerEnd) (r : Recoding) → IsAsked b (Some style) ends → Some r ≡ recoding b (Some style) ends
      → ArePieces style.bits 0 0 b.passes (recoded_pieces r)
  pub some : (b : Block) (style : Style) (ends : List LayerEnd) → wrong_in b ≡ None → recoding b (Some style) ends ≡ None → ⊥
  pub right : (b : Block) → IsPlain b → wrong_in b ≡ None

-- ---- PLT
septets_long : (count n : ℕ) → length (septets count n) ≡ count
septets_long zero n = refl
septets_long (suc zero) n = refl
septets_long (suc (suc count)) n = ap suc (septets_long (suc count) n)

length_few : (n : ℕ) → length (length_bytes n) ≤ 5
length_few n = let a : size n ≤ 32 = size_le n in omega (arith, a, septets_long (length_size n) n)

two_long : (n : ℕ) → length (big_bytes 2 n) ≡ 2
two_long n = refl

-- a segment's bytes: its marker, its length, its number, and the lengths that it holds
segment_long : (comps number : ℕ) (held : List ℕ) → length (spelling comps (segment.Plt (number ∷ held))) ≡ 5 + length held
segment_long comps number held = omega (arith, length-append (big_bytes 2 (2 + length (number ∷ held))) (number ∷ held), two_long (2 + length (number ∷ held)))

held_few : (comps number : ℕ) (held lengths : List ℕ) → length (all_bytes comps (numbered number (filled held lengths))) ≤ 5 + length held + 10 * length lengths
held_few comps number held [] = omega (arith, segment_long comps number held, length-append (spelling comps (segment.Plt (number ∷ held))) [])
held_few comps number held (n ∷ lengths) = elim (cases_Bool (nat_le (length held + length (length_bytes n)) 65532)) [
  | inl t ↦ rw t (omega (arith, held_few comps number (held ++ length_bytes n) lengths, length-append held (length_bytes n), length_few n))
  | inr f ↦
      let rest : List ℕ = all_bytes comps (numbered (number + 1) (filled (length_bytes n) lengths)) in
      rw f (omega (arith, length-append (spelling comps (segment.Plt (number ∷ held))) rest, segment_long comps number held, held_few comps (number + 1) (length_bytes n) lengths, length_few n))
]

lengths_few : (comps : ℕ) (lengths : List ℕ) → length lengths ≤ 3 → length (all_bytes comps (length_segments lengths)) ≤ 35
lengths_few comps [] few = omega arith
lengths_few comps (n ∷ lengths) few = omega (arith, held_few comps 0 [] (n ∷ lengths))

header_few_bytes : (comps part : ℕ) (own : List Segment) (lengths : List ℕ) → own ≡ [] → length lengths ≤ 3 → length (all_bytes comps (written_part_header marks own part lengths)) ≤ 35
header_few_bytes comps zero own lengths e few = rw e (lengths_few comps lengths few)
header_few_bytes comps (suc part) own lengths e few = lengths_few comps lengths few

-- ---- tile-parts of three packets
record IsLight (w : WrittenPacket) : Type 0 where
  sop : w.sop ≡ false
  eph : w.eph ≡ false
  few : length w.header + length w.bytes ≤ 957400000

light_long : (number : ℕ) (w : WrittenPacket) → IsLight w → length (packet_bytes number w) ≤ 957400000
light_long number w h = rw (h.sop, h.eph) (omega (arith, length-append w.header w.bytes, h.few))

abbrev AreLight : Packets → List PacketName → Type 0
AreLight ps [] = Unit {0}
AreLight ps (p ∷ names) = IsLight (ps.written p) × AreLight ps names

packets_few : (ps : Packets) (number : ℕ) (names : List PacketName) → AreLight ps names → length (bytes_from ps number names) ≤ 957400000 * length names
packets_few ps number [] light = omega arith
packets_few ps number (p ∷ names) light =
    omega (
      arith,
      length-append (packet_bytes number (ps.written p)) (bytes_from ps (number + 1) names),
      light_long number (ps.written p) light.0,
      packets_few ps (number + 1) names light.1,
    )

abbrev AreSmall : Packets → List (List PacketName) → Type 0
AreSmall ps [] = Unit {0}
AreSmall ps (names ∷ groups) = (length names ≤ 3) × AreLight ps names × AreSmall ps groups

mapped_long : (ps : Packets) (names : List PacketName) → length (map (packet_length ps) names) ≡ length names
mapped_long ps [] = refl
mapped_long ps (p ∷ names) = ap suc (mapped_long ps names)

parts_short : (comps t : ℕ) (own : List Segment) (ps : Packets) (part parts number : ℕ) (groups : List (List PacketName)) → own ≡ [] → AreSmall ps groups
    → AreShort (parts_with marks comps t own ps part parts number groups)
parts_short comps t own ps part parts number [] e small = tt
parts_short comps t own ps part parts number (names ∷ groups) e small =
    let header = header_few_bytes comps part own (map (packet_length ps) names) e (omega (arith, mapped_long ps names, small.0)) in
    let body = packets_few ps number names small.1 in
    let few = small.0 in
    (omega arith, parts_short comps t own ps (part + 1) parts (number + length names) groups e small.2)

-- ---- a code-block as it is written
pieces_few : (style layer first passes : ℕ) (ps : List PieceValue) → ArePieces style layer first passes ps → length ps + first ≤ passes
pieces_few style layer first passes [] h = omega (arith, h)
pieces_few style layer first passes (p ∷ ps) h = omega (arith, h.0.some, pieces_few style p.layer (first + p.passes) passes ps h.1)

abbrev IsFine : Block → Type 0
IsFine b = (length b.pieces ≤ 37) × (bytes_in b.pieces ≤ 309123)

abbrev IsFineAt : Option Block → Type 0
IsFineAt None = Unit {0}
IsFineAt (Some b) = IsFine b

fine_from : ShortLaws → (b : Block) (ends : List LayerEnd) (o : Option Recoding) → IsPlain b → IsAsked b (Some asked) ends → o ≡ recoding b (Some asked) ends → IsFine (block_with b o)
fine_from laws b ends None plain may e = absurd (laws.some b asked ends (laws.right b plain) (sym e))
fine_from laws b ends (Some r) plain may e =
    (omega (arith, pieces_few 33 0 0 b.passes (recoded_pieces r) (laws.sound b asked ends r may e), plain.few), laws.short b asked ends r may e refl plain.few)

always_asked : (b : Block) → b.style.bits ≡ 0 → style_for (Some asked) b ≡ Some asked
always_asked b e = rw e refl

unbroken : (b : Block) → b.style.bits ≡ 0 → breaks_plane (Some asked) b ≡ false
unbroken b e = rw e refl

written_fine : ShortLaws → (b : Block) (ends : List LayerEnd) → IsPlain b → IsAsked b (style_for (Some asked) b) ends → IsFine (written_in (Some asked) ends b)
unfolding written_in
written_fine laws b ends plain is =
    let P : Option Style → Type 0 = λ t. IsAsked b t ends → IsFine (block_with b (recoding b t ends)) in
    subst P (sym (always_asked b plain.style)) (λ may. fine_from laws b ends (recoding b (Some asked) ends) plain may refl) is

all_fine : ShortLaws → (rule : Rule) (blocks : List Block) (n : ℕ) → All IsPlain blocks → All IsSound blocks → IsFineAt (slice_get (written_by (Some asked) rule 1 blocks) n)
all_fine laws rule blocks n plain sound = subst IsFineAt (sym (laws.each (Some asked) rule 1 blocks n)) (by (slice_get blocks n) refl)
  where
    by : (o : Option Block) → slice_get blocks n ≡ o → IsFineAt (option_map (λ (b : Block). written_in (Some asked) (ends_of rule 1 blocks n b) b) o)
    by None e = tt
    by (Some b) e =
        let is : IsPlain b = subst IsPlain (get_or_from_slice_get blocks n b b e) (plain n b (slice_get_within blocks n b e)) in
        let ok : IsSound b = subst IsSound (get_or_from_slice_get blocks n b b e) (sound n b (slice_get_within blocks n b e)) in
        written_fine laws b (ends_of rule 1 blocks n b) is (laws.may (Some asked) rule 1 blocks n b (omega arith) ok (unbroken b is.style))

-- ---- a packet
mapped_parts : (l j : ℕ) (ps : List PieceValue) → length (parts_in l (map (leaf_part_of j) ps)) ≤ length ps
mapped_parts l j [] = omega arith
mapped_parts l j (p ∷ ps) = elim (cases_Bool (p.layer == l)) [
  | inl t ↦ rw t (omega (arith, mapped_parts l j ps))
  | inr f ↦ rw f (omega (arith, mapped_parts l j ps))
]

leaf_few : (l j : ℕ) (o : Option Block) → IsFineAt o → length (parts_in l (leaf_from j o).parts) ≤ 37
leaf_few l j None fine = omega arith
leaf_few l j (Some b) fine = omega (arith, mapped_parts l j b.pieces, fine.0)

all_few : (l : ℕ) (leaf : ℕ → Leafed) (a n : ℕ) → ((j : ℕ) → length (parts_in l (leaf j).parts) ≤ 37) → HaveFew 37 l (map leaf (range_with_len a n))
all_few l leaf a zero each = tt
all_few l leaf a (suc n) each = (each a, all_few l leaf (a + 1) n each)

layer_bytes : (l : ℕ) (ps : List PieceValue) → length (flat_map (λ (q : PieceValue). q.bytes) (pieces_at l ps)) ≤ bytes_in ps
unfolding pieces_at
layer_bytes l [] = omega arith
layer_bytes l (p ∷ ps) =
    let all : bytes_in (p ∷ ps) ≡ length p.bytes + bytes_in ps = sum_by-cons (λ (q : PieceValue). length q.bytes) p ps in
    elim (cases_Bool (p.layer == l)) [
      | inl t ↦ rw t (omega (arith, all, layer_bytes l ps, length-append p.bytes (flat_map (λ (q : PieceValue). q.bytes) (pieces_at l ps))))
      | inr f ↦ rw f (omega (arith, all, layer_bytes l ps))
    ]

carried_few : (l : ℕ) (o : Option Block) → IsFineAt o → length (flat_map (λ (q : PieceValue). q.bytes) (pieces_at l (pieces_of o))) ≤ 309123
carried_few l None fine = omega (arith, layer_bytes l [])
carried_few l (Some b) fine = omega (arith, layer_bytes l b.pieces, fine.1)

-- ---- the headers that are written in one layer
abbrev own : ℕ → ℕ → ℕ → Stream
own w h size = headers_with wanted_made 1 (stream_made w h size)

own_geometry : (w h size : ℕ) → geometry (own w h size) 0 ≡ geometry (stream_made w h size) 0
unfolding shapes_in stream_written stream_made
own_geometry w h size = refl

own_header : (w h size : ℕ) → header_of (own w h size) 0 ≡ []
unfolding stream_written stream_made
own_header w h size = refl

own_planes : (w h size c r : ℕ) (b : Band) → c < 3 → planes_at (own w h size) 0 c r b ≡ planes_at (stream_made w h size) 0 c r b
unfolding stream_written stream_made
own_planes w h size zero r b lt = refl
own_planes w h size (suc zero) r b lt = refl
own_planes w h size (suc (suc zero)) r b lt = refl
own_planes w h size (suc (suc (suc c))) r b lt = absurd (omega arith)

own_tile : (w h size : ℕ) → (geometry (own w h size) 0).tile ≡ 0
unfolding shapes_in stream_written stream_made
own_tile w h size = refl

abbrev sized : Bool → Rect → ℕ → BandCells
sized t cells n = if t then record { wide = 0; high = 0; planes = n } else record { wide = length_of cells.x; high = length_of cells.y; planes = n }

size_planes : (cells : Rect) (n : ℕ) → (sizes_of cells n).planes ≡ n
size_planes cells n = by (size_of cells == 0)
  where
    by : (t : Bool) → (sized t cells n).planes ≡ n
    by true = refl
    by false = refl

bands_13 : (s : Stream) (g : Geometry) (c r : ℕ) (bands : List Band) → ((b : Band) → planes_at s g.tile c r b ≡ 13)
    → AreOf13 (map (λ (b : Band). sizes_of (cells_at g c r 0 b) (planes_at s g.tile c r b)) bands)
bands_13 s g c r [] planes = tt
bands_13 s g c r (b ∷ bands) planes = (omega (arith, size_planes (cells_at g c r 0 b) (planes_at s g.tile c r b), planes b), bands_13 s g c r bands planes)

own_bands : (w h size c r : ℕ) → c < 3 → r < 6 → AreOf13 (precinct_bands (own w h size) (geometry (own w h size) 0) c r 0)
unfolding precinct_bands
own_bands w h size c r lt below =
    bands_13 (own w h size) (geometry (own w h size) 0) c r (bands_at r)
    (λ b. ap (λ (t : ℕ). planes_at (own w h size) t c r b) (own_tile w h size) ∙ own_planes w h size c r b lt ∙ planes_13 w h size c r b lt (omega arith))

leaves_count : (w h size c r : ℕ) (blocks : List Block) → length (leaves_of_blocks (own w h size) 0 blocks c r 0) ≡ leaves (geometry (own w h size) 0) c r 0
unfolding leaves_of_blocks
leaves_count w h size c r blocks = length-map-range_with_len (leaf_in (own w h size) 0 blocks c r 0) 0 (leaves (geometry (own w h size) 0) c r 0)

leaves_share : (w h size c r l : ℕ) (blocks : List Block) → ((n : ℕ) → IsFineAt (slice_get blocks n)) → HaveFew 37 l (leaves_of_blocks (own w h size) 0 blocks c r 0)
unfolding leaves_of_blocks
leaves_share w h size c r l blocks fine =
    all_few l (leaf_in (own w h size) 0 blocks c r 0) 0 (leaves (geometry (own w h size) 0) c r 0) (λ j. leaf_few l j (block_in (own w h size) 0 blocks (name_of 0 r c 0) j) (fine _))

light : ShortLaws → (w h size c r : ℕ) (blocks : List Block) → AreSizes w h → ((n : ℕ) → IsFineAt (slice_get blocks n)) → c < 3 → r < 6
    → IsLight (packet_of marks (own w h size) 0 blocks (name_of 0 r c 0))
light laws w h size c r blocks sizes fine lt below =
    let s : Stream = own w h size in
    let few : leaves (geometry s 0) c r 0 ≤ 3072 = subst (λ (g : Geometry). leaves g c r 0 ≤ 3072) (sym (own_geometry w h size)) (laws.few w h size c r sizes lt below) in
    let head = header_few 37 17683 (omega arith) (layers_of s 0) (style_of s 0 c) (precinct_bands s (geometry s 0) c r 0) (leaves_of_blocks s 0 blocks c r 0) 0 (omega arith)
    (own_bands w h size c r lt below) (λ l. leaves_share w h size c r l blocks fine) in
    let count = leaves_count w h size c r blocks in
    let coded = joined_few (carried_bytes s 0 blocks (name_of 0 r c 0)) 309123 (leaves (geometry s 0) c r 0) (λ j inside. carried_few 0 (block_in s 0 blocks (name_of 0 r c 0) j) (fine _)) in
    record { sop = refl; eph = refl; few = omega arith }

-- ---- the tile
abbrev three : ℕ → List PacketName
three r = name_of 0 r 0 0 ∷ name_of 0 r 1 0 ∷ name_of 0 r 2 0 ∷ []

cut : groups_of part.Resolution (layer_names 0) ≡ three 0 ∷ three 1 ∷ three 2 ∷ three 3 ∷ three 4 ∷ three 5 ∷ []
unfolding layer_names resolution_names joined
cut = refl

pub made_short : ShortLaws → (w h size : ℕ) (rule : Rule) (blocks : List Block) (names : List PacketName) → AreSizes w h → All IsPlain blocks → All IsSound blocks
    → IsOrder (geometry (stream_made w h size) 0) 1 (entry_of_layers 1 ∷ []) 1 names
    → AreShort (tile_parts marks (own w h size) (written_by (Some asked) rule 1 blocks) 0 (groups_of part.Resolution names))
unfolding packets_of
made_short laws w h size rule blocks names sizes plain sound order =
    let s : Stream = own w h size in
    let written : List Block = written_by (Some asked) rule 1 blocks in
    let fine : (n : ℕ) → IsFineAt (slice_get written n) = λ n. all_fine laws rule blocks n plain sound in
    let same : names ≡ layer_names 0 = laws.order w h size names sizes order in
    let is : groups_of part.Resolution names ≡ three 0 ∷ three 1 ∷ three 2 ∷ three 3 ∷ three 4 ∷ three 5 ∷ [] = ap (λ (ns : List PacketName). groups_of part.Resolution ns) same ∙ cut in
    let all : (r : ℕ) → r < 6 → AreLight (packets_of marks s 0 written) (three r) =
    λ r below.
    (light laws w h size 0 r written sizes fine (omega arith) below, (light laws w h size 1 r written sizes fine (omega arith) below, (light laws w h size 2 r written sizes fine (omega arith) below, tt))) in
    subst (λ (gs : List (List PacketName)). AreShort (tile_parts marks s written 0 gs)) (sym is)
    (parts_short (length s.siz.comps) 0 (header_of s 0) (packets_of marks s 0 written) 0 6 0 (three 0 ∷ three 1 ∷ three 2 ∷ three 3 ∷ three 4 ∷ three 5 ∷ []) (own_header w h size) (
      omega arith,
      all 0 (omega arith),
      (omega arith, all 1 (omega arith), (omega arith, all 2 (omega arith), (omega arith, all 3 (omega arith), (omega arith, all 4 (omega arith), (omega arith, all 5 (omega arith), tt))))),
    ))
