-- A written file has the blocks that it was written from, and headers and packets give one file alone.
use Rattle.std.proofs.Common.{◌≡◌, ◌∙◌, ◌<◌, ◌≤◌, ◌++◌, ℕ, true, false, append-nil, arith, List, [], length, map, take, drop, ◌+◌, refl, sym, ap, subst, None, Some, inl, inr, ◌⊎◌}
use Rattle.std.proofs.lemmas.List.{length-map}
use Rattle.std.proofs.lemmas.Bool.{cases_lt}
use Rattle.std.specs.List.{All, AllByRecursion, list_any, slice_get}
use Rattle.jx_base.specs.declared.pieces.Block.{Block}
use Rattle.jx_base.specs.Joined.{joined, sum_below}
use Rattle.jx_base.specs.Sound.{IsSound}
use Rattle.jx_base.proofs.Joined.{joined_length, joined_same}
use Rattle.jx_geom.specs.Geometry.{Geometry}
use Rattle.jx_marker.specs.declared.Progression.{Progression}
use Rattle.jx_progression.specs.declared.names.PacketName.{PacketName}
use Rattle.jx_progression.specs.Packets.{AreCovered}
use Rattle.jx_progression.proofs.OrderLemmas.{one_order}
use Rattle.jx_codestream.specs.declared.Stream.{Stream}
use Rattle.jx_codestream.specs.First.{tile_number}
use Rattle.jx_codestream.specs.Read.{IsRead}
use Rattle.jx_codestream.specs.Shapes.{geometry, layers_of, tile_at}
use Rattle.jx_codestream.specs.Spells.{TilePart, file_bytes, first_sot, part_bytes}
use Rattle.jx_plan.specs.Asides.{is_left_out}
use Rattle.jx_marker.specs.declared.Segment.{Segment}
use Rattle.jx_marker.specs.declared.Segment.TheVariants as segment
use Rattle.jx_marker.specs.Segments.{spelling}
use Rattle.jx_tier2_reader.specs.Accepted.{IsAccepted}
use Rattle.jx_tier2_reader.specs.BlockOf.{AreBlocksOf}
use Rattle.jx_tile.specs.Covered.{IsListOf, IsWhole}
use Rattle.jx_tier2_reader.specs.Gathered.{IsGathered}
use Rattle.jx_tier2_reader.specs.Planned.{ArePlanned}
use Rattle.jx_tile.specs.Totals.{totals_fault}
use Rattle.jx_tier2_reader.specs.WellFormed.{IsWellFormed}
use Rattle.jx_tier2_reader.specs.Written.{Packets, packets_in}
use Rattle.jx_tier2_reader.specs.Another.{HaveSameBlocks}
use Rattle.jx_tier2_reader.proofs.AnotherLemmas.{blocks_of_other}
use Rattle.jx_tier2_reader.proofs.BlockOfLemmas.{blocks_of_stream}
use Rattle.jx_tier2_reader.proofs.SoundLemmas.{sound_gathered}
use Rattle.jx_tier2_reader.proofs.PlanLemmas.{planned_gathered, planned_written}
use Rattle.jx_tier2_writer.specs.Ready.{AllShort, AreReady, AreShort, HasList, cod_at, stream_read, stream_with}
use Rattle.jx_tier2_writer.specs.Index.{entries_told, entry_of, index_of, index_segments, indexed, length_before}
use Rattle.jx_tier2_writer.specs.Strict.{AreStrictParts, IsStrict, IsStrictTile}
use Rattle.jx_tier2_writer.proofs.AlikeLemmas.{AreAlike, cod_alike}
use Rattle.jx_tier2_writer.proofs.IndexedLemmas.{cover_same, cut_to, list_same, main_alike, ready_to, tiles_alike}
use Rattle.jx_tier2_writer.proofs.IndexedLemmas.{geometry_is as indexed_geometry}
use Rattle.jx_tier2_writer.proofs.MadeLemmas.{made_long}
use Rattle.jx_tier2_writer.proofs.StrictLemmas.{has_eph, has_sop, strict_made}
use Rattle.jx_marker.specs.declared.Cod.{Cod}
use Rattle.jx_codestream.specs.Params.{cod_or, header_in, header_of}
use Rattle.jx_options.specs.declared.Marks.{Marks}
use Rattle.jx_tile_parts.specs.Groups.{HasFewParts, IsPartCount, groups_of}
use Rattle.jx_tile_parts.proofs.GroupLemmas.{groups_stay, some_group}
use Rattle.jx_tier2_writer.specs.TileParts.{AreTilePartsOf, IsOutput, packets_of, tile_parts}
use Rattle.jx_tier2_writer.proofs.ReadyLemmas.{ready_list, ready_whole}
use Rattle.jx_tier2_writer.proofs.ReadLemmas.{IsCutInto, alike, all_of, filled, header_with, in_place, is_read, no_notes, parts_there, progressions_same}
use Rattle.jx_tier2_writer.proofs.FindLemmas.{IsTold, all_told, index_told, small_entries, stands_at}
use Rattle.jx_codestream.proofs.RangeLemmas.{few_tiles}
use Rattle.jx_tier2_writer.proofs.SameLemmas.{blocks_same, geometry_same, layers_same, packets_same, params_same, planes_same, step_same, totals_same}
use Rattle.jx_tier2_writer.specs.SameHeaders.{HasHeadersOf}
use Rattle.jx_base.specs.Limits.{most_bytes}

-- headers are those of jx_packet_header for the blocks, by definition
planned_is : (m : Marks) (s : Stream) (t : ℕ) (blocks : List Block) → ArePlanned s t blocks (packets_of m s t blocks)
unfolding packets_of
planned_is m s t blocks c r k has = record { before = λ l le. refl; headers = λ l lt. refl; parts = λ l lt. refl; bytes = λ l lt. refl }

module _ (m : Marks) (s : Stream) (blocks : List Block) (b : List ℕ) (parts : ℕ → List TilePart) (groups : ℕ → List (List PacketName)) (ready : AreReady m s)
    (cut : (t : ℕ) → t < tile_number s.siz → IsCutInto m s blocks t (parts t) (groups t)) (short : AllShort parts (tile_number s.siz))
    (whole : b ≡ file_bytes s.siz s.main (joined parts 0 (tile_number s.siz)) []) where
  abbrev now : Stream
  now = stream_with s (joined parts 0 (tile_number s.siz))

  same_main : AreAlike s.main s.main
  same_main slot some = refl

  same : (t : ℕ) → AreAlike (header_in (slice_get now.tiles t)) (header_of s t)
  same = alike m s blocks b parts groups ready cut short whole

  read_now : IsRead b now
  read_now = is_read m s blocks b parts groups ready cut short whole

  pub totals_kept : totals_fault now ≡ None
  totals_kept = totals_same s s.main now.tiles same_main same ∙ ready.totals

  geometry_is : (t : ℕ) → geometry now t ≡ geometry s t
  geometry_is = geometry_same s s.main now.tiles same_main same

  layers_are : (t : ℕ) → layers_of now t ≡ layers_of s t
  layers_are = layers_same s s.main now.tiles same_main same

  entries_are : (t : ℕ) → t < tile_number s.siz → (tile_at now t).progressions ≡ (tile_at s t).progressions
  entries_are = progressions_same m s blocks b parts groups ready cut short whole

  list_is : (t : ℕ) → t < tile_number s.siz → IsListOf now t (packets_in (groups t))
  list_is t lt =
      list_same (geometry s t) (geometry now t) (layers_of s t) (layers_of now t) (tile_at s t).progressions (tile_at now t).progressions (packets_in (groups t))
      (geometry_is t) (layers_are t) (entries_are t lt) (cut t lt).order

  whole_is : (t : ℕ) → t < tile_number s.siz → IsWhole now t
  whole_is t lt =
      cover_same (geometry s t) (geometry now t) (layers_of s t) (layers_of now t) (tile_at s t).progressions (tile_at now t).progressions
      (geometry_is t) (layers_are t) (entries_are t lt) (ready_whole m s ready t lt)

  packets_are : (t : ℕ) → packets_of m now t blocks ≡ packets_of m s t blocks
  packets_are t = packets_same s s.main now.tiles same_main same blocks t m

  planned_now : (t : ℕ) → ArePlanned now t blocks (packets_of m s t blocks)
  planned_now t = subst (λ (z : Packets). ArePlanned now t blocks z) (packets_are t) (planned_is m now t blocks)

  pub blocks_kept : AreBlocksOf s blocks → All IsSound blocks → IsGathered b now blocks
  blocks_kept are sound =
      planned_gathered b now blocks (λ t. packets_of m s t blocks) groups read_now totals_kept
      (blocks_same s s.main now.tiles same_main same blocks are) sound whole_is list_is (in_place m s blocks b parts groups ready cut short whole) (filled m s blocks b parts groups ready cut short whole) (λ t lt. planned_now t)

  cod_same : (t : ℕ) → cod_at now t ≡ cod_at s t
  cod_same t = ap cod_or (cod_alike (header_of now t) (header_of s t) (same t) s.main)

  pub strict_tile : AreBlocksOf s blocks → All IsSound blocks → (t : ℕ) → t < tile_number s.siz → IsStrictTile m.plt b now t (parts t)
  strict_tile are sound t lt =
      let made : List TilePart = tile_parts m s blocks t (groups t) in
      let here : AreShort made = subst (λ (z : List TilePart). AreShort z) (cut t lt).are (short t lt) in
      let count : length (groups t) ≡ length (parts t) = sym (ap (λ (z : List TilePart). length z) (cut t lt).are ∙ made_long m (length s.siz.comps) t (header_of s t) (packets_of m s t blocks) (length (groups t)) 0 0 (groups t)) in
      let each : AreStrictParts m.plt (length s.siz.comps) t (length (groups t)) 0 (packets_of m s t blocks) 0 (groups t) made =
      strict_made m (length s.siz.comps) t (header_of s t) (packets_of m s t blocks) (length (groups t)) 0 0 (groups t) (ready.tiles t lt).lengths here in
      let P : List TilePart → Type 0 = λ z. AreStrictParts m.plt (length s.siz.comps) t (length (groups t)) 0 (packets_of m s t blocks) 0 (groups t) z in
      let Q : ℕ → Type 0 = λ n. AreStrictParts m.plt (length s.siz.comps) t n 0 (packets_of m s t blocks) 0 (groups t) (parts t) in
      record {
        packets = packets_of m s t blocks;
        groups = groups t;
        laid = record {
          in_place = in_place m s blocks b parts groups ready cut short whole t lt;
          order = list_is t lt;
          written = (planned_written b now t blocks (packets_of m s t blocks) read_now totals_kept lt (blocks_same s s.main now.tiles same_main same blocks are) sound (planned_now t)).0;
          filled = filled m s blocks b parts groups ready cut short whole t lt;
        };
        sop = λ p. has_sop m s t blocks p ∙ sym (ready.tiles t lt).sop ∙ sym (ap (λ (c : Cod). c.sop) (cod_same t));
        eph = λ p. has_eph m s t blocks p ∙ sym (ready.tiles t lt).eph ∙ sym (ap (λ (c : Cod). c.eph) (cod_same t));
        each = subst Q count (subst P (sym (cut t lt).are) each);
      }

  pub same_headers : HasHeadersOf [] s now
  same_headers =
      record {
        siz = refl;
        main = sym (append-nil s.main);
        header = header_with m s blocks b parts groups ready cut short whole;
        notes = no_notes m s blocks b parts groups ready cut short whole;
        entries = entries_are;
        params = params_same s s.main now.tiles same_main same;
        step = step_same s s.main now.tiles same_main same;
        planes = planes_same s s.main now.tiles same_main same;
        places = geometry_is;
      }

-- ---- a written file
-- where a tile's packets are cut they stay, in at least one tile-part and at most 255
record IsCut (names : List PacketName) (groups : List (List PacketName)) : Type 0 where
  pub stay : packets_in groups ≡ names
  pub some : 0 < length groups
  pub few : length groups < 256

cut_of : (m : Marks) (s : Stream) (t : ℕ) (names : List PacketName) → IsListOf s t names → HasFewParts m.parts s t → IsCut names (groups_of m.parts names)
cut_of m s t names order few =
    record { stay = groups_stay m.parts names; some = omega (arith, some_group m.parts names); few = omega (arith, few names order) }

-- the packets of each tile-part of a tile that is there
abbrev pick : (m : Marks) (s : Stream) (blocks : List Block) (t : ℕ) (parts : List TilePart) → ((t < tile_number s.siz) → AreTilePartsOf m s blocks t parts)
    → (t < tile_number s.siz) ⊎ (tile_number s.siz ≤ t) → List (List PacketName)
pick m s blocks t parts are (inl lt) = groups_of m.parts (are lt).names
pick m s blocks t parts are (inr past) = []

picked : (m : Marks) (s : Stream) (blocks : List Block) (t : ℕ) (parts : List TilePart) (are : (t < tile_number s.siz) → AreTilePartsOf m s blocks t parts)
    (few : (t < tile_number s.siz) → HasFewParts m.parts s t) (c : (t < tile_number s.siz) ⊎ (tile_number s.siz ≤ t)) → t < tile_number s.siz → IsCutInto m s blocks t parts (pick m s blocks t parts are c)
picked m s blocks t parts are few (inl lt) inside =
    let cut = cut_of m s t (are lt).names (are lt).order (few lt) in
    record { order = subst (λ (z : List PacketName). IsListOf s t z) (sym cut.stay) (are lt).order; some = cut.some; few = cut.few; are = (are lt).are }
picked m s blocks t parts are few (inr past) inside = absurd (omega arith)

abbrev groups_in : (m : Marks) (s : Stream) (blocks : List Block) (b : List ℕ) → IsOutput m s blocks b → ℕ → List (List PacketName)
groups_in m s blocks b out t = pick m s blocks t (out.parts t) (out.are t) (cases_lt t (tile_number s.siz))

cut_in : (m : Marks) (s : Stream) (blocks : List Block) (b : List ℕ) (out : IsOutput m s blocks b) → AreReady m s → (t : ℕ) → t < tile_number s.siz → IsCutInto m s blocks t (out.parts t) (groups_in m s blocks b out t)
cut_in m s blocks b out ready t lt = picked m s blocks t (out.parts t) (out.are t) (λ inside. (ready.tiles t inside).few) (cases_lt t (tile_number s.siz)) lt

module _ (m : Marks) (s : Stream) (blocks : List Block) (b : List ℕ) (out : IsOutput m s blocks b) (ready : AreReady m s) where
  abbrev tiles : ℕ
  tiles = tile_number s.siz

  abbrev all : List TilePart
  all = joined out.parts 0 tiles

  abbrev with_index : Stream
  with_index = indexed m s all

  abbrev groups : ℕ → List (List PacketName)
  groups t = groups_in m s blocks b out t

  counted : (t : ℕ) → t < tiles → IsPartCount m.parts s t (length (out.parts t))
  counted t lt =
      let is = out.are t lt in
      let own : List (List PacketName) = groups_of m.parts is.names in
      record {
        names = is.names;
        order = is.order;
        count_is = ap (λ (z : List TilePart). length z) is.are ∙ made_long m (length s.siz.comps) t (header_of s t) (packets_of m s t blocks) (length own) 0 0 own;
      }

  pub few_entries : m.tlm ≡ true → length (map entry_of all) ≤ 2795776
  few_entries asked =
      let few : sum_below (λ (t : ℕ). length (out.parts t)) tiles ≤ 2795776 = ready.index asked (λ (t : ℕ). length (out.parts t)) counted in
      omega (arith, length-map all entry_of, few, joined_length out.parts (λ (t : ℕ). length (out.parts t)) tiles (λ t. refl))

  ready_now : AreReady m with_index
  ready_now = ready_to m s all ready few_entries

  cut_now : (t : ℕ) → t < tiles → IsCutInto m with_index blocks t (out.parts t) (groups t)
  cut_now t lt = cut_to m s all blocks t (out.parts t) (groups t) (cut_in m s blocks b out ready t lt)

  blocks_now : AreBlocksOf s blocks → AreBlocksOf with_index blocks
  blocks_now = blocks_same s with_index.main s.tiles (main_alike m s all) (tiles_alike m s all) blocks

  pub output_read : AllShort out.parts tiles → IsRead b (stream_read m s out.parts)
  output_read short = is_read m with_index blocks b out.parts groups ready_now cut_now short out.bytes

  pub output_gathered : AllShort out.parts tiles → AreBlocksOf s blocks → All IsSound blocks → IsGathered b (stream_read m s out.parts) blocks
  output_gathered short are = blocks_kept m with_index blocks b out.parts groups ready_now cut_now short out.bytes (blocks_now are)

  pub output_accepted : AllShort out.parts tiles → AreBlocksOf s blocks → All IsSound blocks → IsAccepted b (stream_read m s out.parts)
  output_accepted short are sound = record {
    read = output_read short;
    totals = totals_kept m with_index blocks b out.parts groups ready_now cut_now short out.bytes;
    blocks = blocks;
    gathered = output_gathered short are sound;
  }

  pub output_formed : AllShort out.parts tiles → AreBlocksOf s blocks → All IsSound blocks → IsWellFormed b
  output_formed short are sound = record {
    stream = stream_read m s out.parts;
    spelled = (output_read short).spelled;
    blocks = blocks;
    gathered = output_gathered short are sound;
  }

  -- before the index the main header is that of the headers
  pub strict_with : AllShort out.parts tiles → AreBlocksOf s blocks → All IsSound blocks → (is : IsStrict m b (stream_read m s out.parts)) × (is.front ≡ s.main)
  strict_with short are sound = (
    record {
      parts = out.parts;
      bytes = out.bytes;
      tiles = strict_tile m with_index blocks b out.parts groups ready_now cut_now short out.bytes (blocks_now are) sound;
      front = s.main;
      main = refl;
    },
    refl,
  )

  pub output_strict : AllShort out.parts tiles → AreBlocksOf s blocks → All IsSound blocks → IsStrict m b (stream_read m s out.parts)
  output_strict short are sound = (strict_with short are sound).0

  pub output_headers : AllShort out.parts tiles → HasHeadersOf (index_of m all) s (stream_read m s out.parts)
  output_headers short =
      let is : HasHeadersOf [] with_index (stream_read m s out.parts) = same_headers m with_index blocks b out.parts groups ready_now cut_now short out.bytes in
      let index = with_index.main in
      record {
        siz = refl;
        main = refl;
        header = is.header;
        notes = is.notes;
        entries = is.entries;
        params = λ t c. is.params t c ∙ params_same s index s.tiles (main_alike m s all) (tiles_alike m s all) t c;
        step = λ t c r band. is.step t c r band ∙ step_same s index s.tiles (main_alike m s all) (tiles_alike m s all) t c r band;
        planes = λ t c r band. is.planes t c r band ∙ planes_same s index s.tiles (main_alike m s all) (tiles_alike m s all) t c r band;
        places = λ t. is.places t ∙ indexed_geometry m s all t;
      }

  -- ---- the index leads to each tile-part
  told_all : AllShort out.parts tiles → AllByRecursion (IsTold (length s.siz.comps)) all
  told_all short =
      all_told (length s.siz.comps) out.parts tiles (omega (arith, few_tiles s.siz ready.few_tiles)) (all_of m with_index blocks b out.parts groups ready_now cut_now short out.bytes)

  pub entries_found : AllShort out.parts tiles → m.tlm ≡ true → list_any is_left_out s.main ≡ false → entries_told (stream_read m s out.parts).main ≡ map entry_of all
  entries_found short asked none =
      let index : index_of m all ≡ index_segments (map entry_of all) = rw asked refl in
      ap (λ (z : List Segment). entries_told (s.main ++ z)) index
      ∙ index_told s.main (map entry_of all) none (small_entries (length s.siz.comps) all (told_all short)) (few_entries asked)

  pub parts_found : AllShort out.parts tiles → (i : ℕ) (p : TilePart) → slice_get all i ≡ Some p
      → take p.sot.psot (drop (first_sot s.siz (stream_read m s out.parts).main + length_before i (map entry_of all)) b) ≡ part_bytes (length s.siz.comps) p
  parts_found short i p there =
      stands_at (length s.siz.comps) b (first_sot s.siz with_index.main) all (spelling 1 segment.Eoc ++ []) i p (told_all short)
      (parts_there m with_index blocks b out.parts groups ready_now cut_now short out.bytes) there

-- ---- one file
pub one_tile : (m : Marks) (s : Stream) (blocks : List Block) (t : ℕ) (xs ys : List TilePart) → AreTilePartsOf m s blocks t xs → AreTilePartsOf m s blocks t ys → xs ≡ ys
one_tile m s blocks t xs ys one other =
    let same : one.names ≡ other.names = one_order (geometry s t) (layers_of s t) (tile_at s t).progressions (length (tile_at s t).progressions) one.names other.names one.order other.order in
    one.are ∙ ap (λ (z : List PacketName). tile_parts m s blocks t (groups_of m.parts z)) same ∙ sym other.are

pub one_output : (m : Marks) (s : Stream) (blocks : List Block) (b c : List ℕ) → IsOutput m s blocks b → IsOutput m s blocks c → b ≡ c
one_output m s blocks b c one other =
    one.bytes
    ∙ ap (λ (z : List TilePart). file_bytes s.siz (s.main ++ index_of m z) z []) (joined_same one.parts other.parts (tile_number s.siz) (λ t lt. one_tile m s blocks t (one.parts t) (other.parts t) (one.are t lt) (other.are t lt)))
    ∙ sym other.bytes

-- ---- and there is one
abbrev list_for : (s : Stream) (t : ℕ) → ((t < tile_number s.siz) → HasList s t) → (t < tile_number s.siz) ⊎ (tile_number s.siz ≤ t) → List PacketName
list_for s t has (inl lt) = (has lt).0
list_for s t has (inr past) = []

list_is_for : (s : Stream) (t : ℕ) (has : (t < tile_number s.siz) → HasList s t) (c : (t < tile_number s.siz) ⊎ (tile_number s.siz ≤ t)) → t < tile_number s.siz → IsListOf s t (list_for s t has c)
list_is_for s t has (inl lt) inside = (has lt).1
list_is_for s t has (inr past) inside = absurd (omega arith)

pub output_exists : (m : Marks) (s : Stream) (blocks : List Block) → AreReady m s → (b : List ℕ) × IsOutput m s blocks b
output_exists m s blocks ready =
    let names : ℕ → List PacketName = λ t. list_for s t (ready_list m s ready t) (cases_lt t (tile_number s.siz)) in
    let parts : ℕ → List TilePart = λ t. tile_parts m s blocks t (groups_of m.parts (names t)) in (
      file_bytes s.siz (s.main ++ index_of m (joined parts 0 (tile_number s.siz))) (joined parts 0 (tile_number s.siz)) [],
      record {
        parts = parts;
        are = λ t lt. record { names = names t; order = list_is_for s t (ready_list m s ready t) (cases_lt t (tile_number s.siz)) lt; are = refl };
        bytes = refl;
      },
    )

-- ---- the blocks of another file
pub output_keeps : (m : Marks) (s input : Stream) (blocks : List Block) (a b : List ℕ) (out : IsOutput m s blocks b) → IsRead a input → length a ≤ most_bytes → totals_fault input ≡ None → IsGathered a input blocks
    → HaveSameBlocks input s → AreReady m s → AllShort out.parts (tile_number s.siz) → IsGathered b (stream_read m s out.parts) blocks
output_keeps m s input blocks a b out read small none gathered same ready short =
    output_gathered m s blocks b out ready short (blocks_of_other input s blocks same (blocks_of_stream a input blocks read small none gathered)) (sound_gathered a input blocks read small none gathered)
