-- Headers with an index behind the main one say what they said: they are ready to be written where the headers were, and give the same
-- packets.
use Rattle.std.proofs.Common.{◌≡◌, ◌∙◌, ◌≤◌, ◌++◌, ℕ, true, arith, List, [], length, map, refl, sym, ap, subst, nat_lt, Option}
use Rattle.std.specs.List.{find, flat_map}
use Rattle.jx_base.specs.declared.pieces.Block.{Block}
use Rattle.jx_geom.specs.Geometry.{Geometry}
use Rattle.jx_marker.specs.declared.Cod.{Cod}
use Rattle.jx_marker.specs.declared.Progression.{Progression}
use Rattle.jx_marker.specs.declared.Segment.{Segment}
use Rattle.jx_progression.specs.declared.names.PacketName.{PacketName}
use Rattle.jx_progression.specs.Packets.{AreCovered, IsOrder}
use Rattle.jx_codestream.specs.declared.headers.HeaderKind.TheVariants.{Main}
use Rattle.jx_codestream.specs.declared.Stream.{Stream}
use Rattle.jx_codestream.specs.declared.Tile.{Tile}
use Rattle.jx_codestream.specs.First.{lacks_default}
use Rattle.jx_codestream.specs.Headers.{has_packed}
use Rattle.jx_codestream.specs.Params.{cod_or, header_of, limit_4_of}
use Rattle.jx_codestream.specs.Shapes.{geometry, layers_of, tile_at}
use Rattle.jx_codestream.specs.Spells.{AreSegments, TilePart}
use Rattle.jx_codestream.specs.Tiles.{entries_joined, entry_in, in_slot}
use Rattle.jx_plan.specs.Changes.{MainOrder, entries_by, main_order}
use Rattle.jx_tile.specs.Covered.{IsListOf}
use Rattle.jx_tier2_reader.specs.Written.{Packets, packets_in}
use Rattle.jx_options.specs.declared.Marks.{Marks}
use Rattle.jx_tile_parts.specs.Groups.{HasFewEntries, IsPartCount}
use Rattle.jx_tier2_writer.specs.Index.{entry_of, index_of, indexed}
use Rattle.jx_tier2_writer.specs.Ready.{AreReady, IsTileReady, cod_at}
use Rattle.jx_tier2_writer.specs.TileParts.{parts_with}
use Rattle.jx_tier2_writer.proofs.AlikeLemmas.{AreAlike, cod_main, tile_planes_main, too_few_main}
use Rattle.jx_tier2_writer.proofs.HeaderLemmas.{segments_on}
use Rattle.jx_tier2_writer.proofs.IndexLemmas.{index_held, index_is, index_stands, tlm_defaults, tlm_entries, tlm_packed, tlm_slots, tlms}
use Rattle.jx_tier2_writer.proofs.ReadLemmas.{IsCutInto}
use Rattle.jx_tier2_writer.proofs.SameLemmas.{geometry_same, layers_same, packets_same, totals_same}

-- lists of one geometry, number of layers and entries
pub list_same : (g h : Geometry) (layers other : ℕ) (entries later : List Progression) (names : List PacketName) → h ≡ g → other ≡ layers → later ≡ entries
    → IsOrder g layers entries (length entries) names → IsOrder h other later (length later) names
list_same g h layers other entries later names eg el ee is =
    let P : Geometry → Type 0 = λ z. IsOrder z other later (length later) names in
    let Q : ℕ → Type 0 = λ z. IsOrder g z later (length later) names in
    let R : List Progression → Type 0 = λ z. IsOrder g layers z (length z) names in
    subst P (sym eg) (subst Q (sym el) (subst R (sym ee) is))

-- and covers
pub cover_same : (g h : Geometry) (layers other : ℕ) (entries later : List Progression) → h ≡ g → other ≡ layers → later ≡ entries → AreCovered g layers entries → AreCovered h other later
cover_same g h layers other entries later eg el ee is =
    let P : Geometry → Type 0 = λ z. AreCovered z other later in
    let Q : ℕ → Type 0 = λ z. AreCovered g z later in
    let R : List Progression → Type 0 = λ z. AreCovered g layers z in
    subst P (sym eg) (subst Q (sym el) (subst R (sym ee) is))

same_order : (es fs ds gs : List Progression) → es ≡ fs → ds ≡ gs → ◌≡◌ {A = MainOrder} (record { joined = es; default = ds }) (record { joined = fs; default = gs })
same_order es fs ds gs e h = rw (e, h) refl

module _ (m : Marks) (s : Stream) (parts : List TilePart) where
  abbrev pub it : Stream
  it = indexed m s parts

  abbrev held : List (List ℕ)
  held = index_held m parts

  abbrev main : List Segment
  main = s.main ++ index_of m parts

  main_is : main ≡ s.main ++ tlms held
  main_is = ap (λ (z : List Segment). s.main ++ z) (index_is m parts)

  pub main_alike : AreAlike main s.main
  main_alike slot some = ap (λ (z : List Segment). in_slot slot z) main_is ∙ tlm_slots slot s.main held some

  -- ---- what headers say
  pub tiles_alike : (t : ℕ) → AreAlike (header_of s t) (header_of s t)
  tiles_alike t slot some = refl

  pub geometry_is : (t : ℕ) → geometry it t ≡ geometry s t
  geometry_is = geometry_same s main s.tiles main_alike tiles_alike

  pub layers_are : (t : ℕ) → layers_of it t ≡ layers_of s t
  layers_are = layers_same s main s.tiles main_alike tiles_alike

  pub list_to : (t : ℕ) (names : List PacketName) → IsListOf s t names → IsListOf it t names
  list_to t names =
      list_same (geometry s t) (geometry it t) (layers_of s t) (layers_of it t) (tile_at s t).progressions (tile_at s t).progressions names (geometry_is t) (layers_are t) refl

  pub list_from : (t : ℕ) (names : List PacketName) → IsListOf it t names → IsListOf s t names
  list_from t names =
      list_same (geometry it t) (geometry s t) (layers_of it t) (layers_of s t) (tile_at s t).progressions (tile_at s t).progressions names (sym (geometry_is t)) (sym (layers_are t)) refl

  -- ---- the same packets, in the same tile-parts
  pub cut_to : (blocks : List Block) (t : ℕ) (own : List TilePart) (groups : List (List PacketName)) → IsCutInto m s blocks t own groups → IsCutInto m it blocks t own groups
  cut_to blocks t own groups is = record {
    order = list_to t (packets_in groups) is.order;
    some = is.some;
    few = is.few;
    are = is.are
        ∙ ap (λ (z : Packets). parts_with m (length s.siz.comps) t (header_of s t) z 0 (length groups) 0 groups) (sym (packets_same s main s.tiles main_alike tiles_alike blocks t m));
  }

  -- ---- headers that a file may be written from
  order_is : main_order main ≡ main_order s.main
  order_is =
      same_order (entries_joined main) (entries_joined s.main) (entry_in (in_slot 1 main)) (entry_in (in_slot 1 s.main))
      (ap (λ (z : List Segment). entries_joined z) main_is ∙ tlm_entries s.main held) (ap entry_in (main_alike 1 (omega arith)))

  tile_ready : (t : ℕ) → IsTileReady m s t → IsTileReady m it t
  tile_ready t is =
      let cod : cod_at it t ≡ cod_at s t = ap cod_or (cod_main main s.main main_alike (header_of s t)) in
      record {
        header = is.header;
        lengths = is.lengths;
        in_place = is.in_place;
        progressions = is.progressions ∙ ap (λ (o : MainOrder). entries_by o (header_of s t)) (sym order_is);
        whole = cover_same (geometry s t) (geometry it t) (layers_of s t) (layers_of it t) (tile_at s t).progressions (tile_at s t).progressions (geometry_is t) (layers_are t) refl is.whole;
        sop = ap (λ (c : Cod). c.sop) cod ∙ is.sop;
        eph = ap (λ (c : Cod). c.eph) cod ∙ is.eph;
        few = λ names list. is.few names (list_from t names list);
      }

  counted : (t count : ℕ) → IsPartCount m.parts it t count → IsPartCount m.parts s t count
  counted t count is = record { names = is.names; order = list_from t is.names is.order; count_is = is.count_is }

  few_entries : HasFewEntries m s → HasFewEntries m it
  few_entries few asked counts each = few asked counts (λ t lt. counted t (counts t) (each t lt))

  pub ready_to : AreReady m s → (m.tlm ≡ true → length (map entry_of parts) ≤ 2795776) → AreReady m it
  ready_to is few =
      let P : List Segment → Type 0 = λ z. AreSegments Main (length s.siz.comps) [] z in
      record {
        siz = is.siz;
        main = subst P (sym main_is) (segments_on Main (length s.siz.comps) [] s.main (tlms held) is.main (index_stands m (length s.siz.comps) s.main parts few));
        in_place = ap has_packed main_is ∙ tlm_packed s.main held ∙ is.in_place;
        defaults = ap (λ (z : List Segment). lacks_default z) main_is ∙ tlm_defaults s.main held ∙ is.defaults;
        few_tiles = is.few_tiles;
        count = is.count;
        tiles = λ t lt. tile_ready t (is.tiles t lt);
        enough = ap (λ f. find f s.tiles) (too_few_main main s.main main_alike (length s.siz.comps)) ∙ is.enough;
        planes = ap (λ (f : Tile → List ℕ). limit_4_of (find (nat_lt 74) (flat_map f s.tiles))) (tile_planes_main main s.main main_alike (length s.siz.comps)) ∙ is.planes;
        totals = totals_same s main s.tiles main_alike tiles_alike ∙ is.totals;
        index = few_entries is.index;
      }
