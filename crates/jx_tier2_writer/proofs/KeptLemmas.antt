-- The headers that are written are such as a file may be written from, and the file that is written from them has its input's blocks as
-- they are written, and its meaning.
use Rattle.std.proofs.Common.{◌≡◌, ◌∙◌, ◌<◌, ◌≤◌, ◌+◌, ◌++◌, ◌^◌, ℕ, false, arith, List, [], ◌∷◌, length, map, refl, sym, ap, subst, Option, None, Some}
use Rattle.std.proofs.Math.Path.{fun_ext}
use Rattle.std.specs.List.{All, filter, list_any}
use Rattle.std.proofs.lemmas.List.Folds.{list_any-append}
use Rattle.std.proofs.lemmas.Option.{get_or_from_slice_get, slice_get_within}
use Rattle.std.specs.Prelude.{slice_get}
use Rattle.jx_base.specs.declared.names.Band.{Band}
use Rattle.jx_base.specs.declared.pieces.Block.{Block}
use Rattle.jx_base.specs.declared.style.Style.{Style}
use Rattle.jx_base.specs.Joined.{joined}
use Rattle.jx_base.specs.Sound.{IsSound}
use Rattle.jx_tier1_specs.specs.declared.coef.Coef.{Coef}
use Rattle.jx_marker.specs.declared.Cod.{Cod}
use Rattle.jx_marker.specs.declared.Segment.{Segment}
use Rattle.jx_marker.specs.declared.Siz.{Siz}
use Rattle.jx_codestream.specs.declared.headers.HeaderKind.TheVariants.{First}
use Rattle.jx_codestream.specs.declared.Stream.{Stream}
use Rattle.jx_codestream.specs.First.{tile_number}
use Rattle.jx_codestream.specs.Params.{cod_of, cod_or, header_of, params_of, planes_at, step_of}
use Rattle.jx_codestream.specs.Shapes.{geometry, shapes_of, tile_at}
use Rattle.jx_codestream.specs.Spells.{AreSegments, TilePart}
use Rattle.jx_plan.specs.Changes.{entries_by, main_order}
use Rattle.jx_tier2_reader.specs.BlockOf.{AreBlocksOf}
use Rattle.jx_tile.specs.Totals.{packet_total, totals_fault}
use Rattle.jx_codeblock.specs.declared.LayerEnd.{LayerEnd}
use Rattle.jx_codeblock.specs.FirstLayers.{HasFirstLayers}
use Rattle.jx_codeblock.specs.Jobs.{IsAsked}
use Rattle.jx_codeblock.specs.Written.{is_wrong, style_for}
use Rattle.jx_plan.specs.Causal.{breaks_plane, first_broken}
use Rattle.jx_plan.specs.Layers.{ends_of}
use Rattle.jx_layers.specs.Rule.{Rule}
use Rattle.jx_options.specs.declared.Marks.{Marks}
use Rattle.jx_plan.specs.Asides.{is_informational, is_left_out, is_plt}
use Rattle.jx_plan.specs.Fits.{Fits, first_zero}
use Rattle.jx_plan.specs.Headers.{HeaderOptions, MayBeInHeaders, cod_written, comp_written, params_written, rsiz_written, stream_written, with_layers}
use Rattle.jx_plan.specs.Causes.{IsFree}
use Rattle.jx_plan.specs.Meaning.{Component, Meaning, Place, component_of, meaning_of, sample_at}
use Rattle.jx_plan.specs.Plan.{MayBePlanned, headers_with}
use Rattle.jx_plan.specs.Planned.{IsCrowded, IsFreeBy, MakesLayers, blocks_written, layers_of_rule}
use Rattle.jx_plan.specs.Standing.{HeadersStand}
use Rattle.jx_options.specs.Wanted.{MayBeWanted, Wanted}
use Rattle.jx_tier2_writer.specs.Index.{index_of}
use Rattle.jx_tier2_writer.specs.Kept.{IsKeptIn}
use Rattle.jx_tier2_writer.specs.Ready.{AllShort, AreReady, IsTileReady, stream_read}
use Rattle.jx_tier2_writer.specs.Lengths.{numbered}
use Rattle.jx_tier2_writer.specs.SameHeaders.{HasHeadersOf, IsWithLengths}
use Rattle.jx_tier2_writer.specs.Strict.{IsStrict}
use Rattle.jx_tier2_writer.specs.TileParts.{IsOutput}
use Rattle.jx_tier2_writer.proofs.OutputLemmas.{output_formed, output_gathered, output_headers, output_read, strict_with}
use Rattle.jx_tier2_writer.proofs.IndexLemmas.{index_held, index_is, tlm_informs}
use Rattle.jx_tier2_writer.proofs.InPlaceLemmas.{unpacked}
use Rattle.jx_plan.proofs.ReadBackLemmas.{comps_are as comps_written}
use Rattle.jx_plan.proofs.PlanLemmas.{style_few}

-- the laws of written headers: they stand, are plain, and have their stream's tiles
pub record HeaderLaws : Type 0 where
  pub stand : (a : HeaderOptions) (s : Stream) → MayBeInHeaders a → first_zero a.wanted.precincts s ≡ None → HeadersStand s → HeadersStand (stream_written a s)
  pub tiles : (a : HeaderOptions) (s : Stream) → tile_number (stream_written a s).siz ≡ tile_number s.siz
  pub header : (a : HeaderOptions) (s : Stream) (t : ℕ) → HeadersStand s → MayBeInHeaders a → first_zero a.wanted.precincts s ≡ None → t < length s.tiles
      → AreSegments First (length s.siz.comps) [] (header_of (stream_written a s) t)
  pub lengths : (a : HeaderOptions) (s : Stream) (t : ℕ) → HeadersStand s → t < length s.tiles → list_any is_plt (header_of (stream_written a s) t) ≡ false
  pub left_main : (a : HeaderOptions) (s : Stream) → HeadersStand s → list_any is_left_out (stream_written a s).main ≡ false
  pub left_header : (a : HeaderOptions) (s : Stream) (t : ℕ) → HeadersStand s → t < length s.tiles → list_any is_left_out (header_of (stream_written a s) t) ≡ false
  pub informs : (a : HeaderOptions) (s : Stream) → HeadersStand s → filter is_informational (stream_written a s).main ≡ filter is_informational s.main
  pub order : (a : HeaderOptions) (s : Stream) (t : ℕ) → HeadersStand s → t < length s.tiles → (tile_at (stream_written a s) t).progressions
      ≡ entries_by (main_order (stream_written a s).main) (header_of (stream_written a s) t)
  pub cods : (a : HeaderOptions) (s : Stream) (t : ℕ) → HeadersStand s
      → cod_or (cod_of (header_of (stream_written a s) t) (stream_written a s).main) ≡ cod_written a (cod_or (cod_of (header_of s t) s.main))
  pub limits : (a : HeaderOptions) (s : Stream) → Fits a.wanted.precincts s → HeadersStand s → totals_fault s ≡ None → packet_total (stream_written a s) ≤ 2 ^ 22
      → totals_fault (stream_written a s) ≡ None

-- and of what they keep
pub record KeepLaws : Type 0 where
  pub params : (a : HeaderOptions) (s : Stream) (t c : ℕ) → HeadersStand s → params_of (stream_written a s) t c ≡ params_written a (params_of s t c)
  pub steps : (a : HeaderOptions) (s : Stream) (t c r : ℕ) (band : Band) → HeadersStand s → step_of (stream_written a s) t c r band ≡ step_of s t c r band
  pub planes : (a : HeaderOptions) (s : Stream) (t c r : ℕ) (band : Band) → HeadersStand s → planes_at (stream_written a s) t c r band ≡ planes_at s t c r band
  pub places : (a : HeaderOptions) (s : Stream) (t : ℕ) → HeadersStand s
      → geometry (stream_written a s) t ≡ record (geometry s t) { shapes = map (comp_written a.wanted.precincts) (shapes_of s t) }
  pub blocks : (w : Wanted) (r : Rule) (s : Stream) (blocks : List Block) → 1 ≤ layers_of_rule r s blocks → Fits w.precincts s → HeadersStand s
      → AreBlocksOf s blocks → All IsSound blocks → first_broken w.style blocks ≡ None → All (λ (b : Block). is_wrong w.style b ≡ false) blocks → IsCrowded r s blocks None
      → AreBlocksOf (headers_with w (layers_of_rule r s blocks) s) (blocks_written w r s blocks)
  pub sound : (w : Wanted) (r : Rule) (s : Stream) (blocks : List Block) → 1 ≤ layers_of_rule r s blocks → All IsSound blocks → first_broken w.style blocks ≡ None
      → All IsSound (blocks_written w r s blocks)
  pub meaning : (w : Wanted) (r : Rule) (s : Stream) (blocks : List Block) → 1 ≤ layers_of_rule r s blocks → HeadersStand s → All IsSound blocks → first_broken w.style blocks ≡ None
      → meaning_of (headers_with w (layers_of_rule r s blocks) s) (blocks_written w r s blocks) ≡ meaning_of s blocks

-- and of the layers in which blocks are written
pub record LayerLaws : Type 0 where
  pub whole : (style : Option Style) (blocks : List Block) → first_broken style blocks ≡ None → All (λ (b : Block). breaks_plane style b ≡ false) blocks
  pub asked : (style : Option Style) (rule : Rule) (layers : ℕ) (blocks : List Block) (number : ℕ) (b : Block) → 1 ≤ layers → IsSound b → breaks_plane style b ≡ false
      → IsAsked b (style_for style b) (ends_of rule layers blocks number b)
  pub final : (asked : Option Style) (ends : List LayerEnd) (b : Block) (layer : ℕ) → IsAsked b (style_for asked b) ends → is_wrong asked b ≡ false → HasFirstLayers asked ends b layer

siz_written : (a : HeaderOptions) (s : Stream) → (stream_written a s).siz ≡ record s.siz { rsiz = rsiz_written a.wanted.rsiz s.siz.rsiz }
unfolding stream_written
siz_written a s = refl

-- what headers say of the meaning is in SIZ, the parameters and the steps
means : (siz other : Siz) (c d : ℕ → ℕ → Component) (e f : ℕ → ℕ → ℕ → Band → ℕ × ℕ) (sample : Place → Option Coef) → siz ≡ other → c ≡ d → e ≡ f
    → let x : Meaning = record { siz = record siz { rsiz = 0 }; component = c; step = e; sample = sample } in
    let y : Meaning = record { siz = record other { rsiz = 0 }; component = d; step = f; sample = sample } in
    x ≡ y
means siz other c d e f sample one two three =
    let A : Siz → Meaning = λ z. record { siz = record z { rsiz = 0 }; component = c; step = e; sample = sample } in
    let B : (ℕ → ℕ → Component) → Meaning = λ z. record { siz = record other { rsiz = 0 }; component = z; step = e; sample = sample } in
    let C : (ℕ → ℕ → ℕ → Band → ℕ × ℕ) → Meaning = λ z. record { siz = record other { rsiz = 0 }; component = d; step = z; sample = sample } in
    ap A one ∙ ap B two ∙ ap C three

same_meaning : (index : List Segment) (s other : Stream) (blocks : List Block) → HasHeadersOf index s other → meaning_of other blocks ≡ meaning_of s blocks
unfolding meaning_of
same_meaning index s other blocks headers =
    means other.siz s.siz (λ t c. component_of (params_of other t c)) (λ t c. component_of (params_of s t c)) (step_of other) (step_of s) (sample_at blocks) headers.siz
    (fun_ext (λ t. fun_ext (λ c. ap component_of (headers.params t c))))
    (fun_ext (λ t. fun_ext (λ c. fun_ext (λ r. fun_ext (λ band. headers.step t c r band)))))

-- a header to which PLT segments are added
none_in_lengths : (number : ℕ) (held : List (List ℕ)) → list_any is_left_out (numbered number held) ≡ false
none_in_lengths number [] = refl
none_in_lengths number (bytes ∷ held) = none_in_lengths (number + 1) held

left_with : (own header : List Segment) → IsWithLengths own header → list_any is_left_out own ≡ false → list_any is_left_out header ≡ false
left_with own header more none =
    ap (λ (z : List Segment). list_any is_left_out z) more.1 ∙ list_any-append is_left_out own (numbered 0 more.0)
    ∙ (let lengths = none_in_lengths 0 more.0 in rw (none, lengths) refl)

module _ (laws : HeaderLaws) (w : Wanted) (layers : ℕ) (s : Stream) (some : 1 ≤ layers) (few : layers < 2 ^ 16) (may : MayBeWanted w) (stand : HeadersStand s)
    (none : totals_fault s ≡ None) (free : IsFree s w layers) where
  abbrev a : HeaderOptions
  a = with_layers w layers

  abbrev m : Marks
  m = w.marks

  abbrev it : Stream
  it = headers_with w layers s

  may_be : MayBeInHeaders a
  may_be = record { some = some; few = few; order = may.order; changes = may.changes; bytes = may.bytes; style = style_few w.style may.style }

  above : first_zero a.wanted.precincts s ≡ None
  above = free.fits.above

  tiles_are : tile_number it.siz ≡ tile_number s.siz
  tiles_are = laws.tiles a s

  tile_ready : (t : ℕ) → t < tile_number it.siz → IsTileReady m it t
  tile_ready t inside =
      let lt : t < length s.tiles = omega (arith, inside, stand.count, tiles_are) in
      let P : ℕ → Type 0 = λ n. AreSegments First n [] (header_of it t) in
      record {
        header = subst P (sym (comps_written a s)) (laws.header a s t stand may_be above lt);
        lengths = laws.lengths a s t stand lt;
        in_place = unpacked (header_of it t) (laws.left_header a s t stand lt);
        progressions = laws.order a s t stand lt;
        whole = (free.placed.each t (omega (arith, inside, tiles_are))).whole;
        sop = ap (λ (c : Cod). c.sop) (laws.cods a s t stand);
        eph = ap (λ (c : Cod). c.eph) (laws.cods a s t stand);
        few = free.parts t (omega (arith, inside, tiles_are));
      }

  pub written_ready : AreReady m it
  written_ready =
      let written : HeadersStand it = laws.stand a s may_be above stand in
      record {
        siz = written.siz;
        main = written.main;
        in_place = unpacked it.main (laws.left_main a s stand);
        defaults = written.defaults;
        few_tiles = written.few;
        count = written.count;
        tiles = tile_ready;
        enough = written.entries;
        planes = written.planes;
        totals = laws.limits a s free.fits stand none free.few;
        index = free.entries;
      }

all_at : (P : Block → Type 0) (blocks : List Block) (k : ℕ) (b : Block) → All P blocks → slice_get blocks k ≡ Some b → P b
all_at P blocks k b each is = subst P (get_or_from_slice_get blocks k b b is) (each k b (slice_get_within blocks k b is))

module _ (laws : HeaderLaws) (keep : KeepLaws) (told : LayerLaws) (w : Wanted) (rule : Rule) (before : Stream) (blocks : List Block) (out : List ℕ)
    (is : IsOutput w.marks (headers_with w (layers_of_rule rule before blocks) before) (blocks_written w rule before blocks) out) (plan : MayBePlanned before blocks) (makes : MakesLayers (Some rule) before blocks)
    (may : MayBeWanted w) (free : IsFreeBy rule before blocks w) (right : All (λ (b : Block). is_wrong w.style b ≡ false) blocks)
    (short : AllShort is.parts (tile_number before.siz)) where
  abbrev layers : ℕ
  layers = layers_of_rule rule before blocks

  abbrev b : HeaderOptions
  b = with_layers w layers

  abbrev marks : Marks
  marks = w.marks

  abbrev written : Stream
  written = headers_with w layers before

  abbrev after : Stream
  after = stream_read marks written is.parts

  -- the index, where it is asked
  abbrev index : List Segment
  index = index_of marks (joined is.parts 0 (tile_number written.siz))

  abbrev anew : List Block
  anew = blocks_written w rule before blocks

  stand : HeadersStand before
  stand = plan.headers

  ready : AreReady marks written
  ready = written_ready laws w layers before makes.0 makes.1 may stand plan.totals free.free

  all_short : AllShort is.parts (tile_number written.siz)
  all_short = subst (λ (n : ℕ). AllShort is.parts n) (sym (laws.tiles b before)) short

  sound_read : All IsSound blocks
  sound_read = plan.sound

  named : AreBlocksOf written anew
  named =
      keep.blocks w rule before blocks makes.0 free.free.fits stand plan.blocks_are sound_read free.whole right free.uncrowded

  sound : All IsSound anew
  sound = keep.sound w rule before blocks makes.0 sound_read free.whole

  headers : HasHeadersOf index written after
  headers = output_headers marks written anew out is ready all_short

  -- the layers that the rule gives a block may be asked of it
  may_ask : (k : ℕ) (d : Block) → slice_get blocks k ≡ Some d → IsAsked d (style_for w.style d) (ends_of rule layers blocks k d)
  may_ask k d there =
      told.asked w.style rule layers blocks k d makes.0 (all_at IsSound blocks k d sound_read there)
      (all_at (λ (x : Block). breaks_plane w.style x ≡ false) blocks k d (told.whole w.style blocks free.whole) there)

  first_layers : (k layer : ℕ) (d : Block) → slice_get blocks k ≡ Some d → HasFirstLayers w.style (ends_of rule layers blocks k d) d layer
  first_layers k layer d there =
      told.final w.style (ends_of rule layers blocks k d) d layer (may_ask k d there) (all_at (λ (x : Block). is_wrong w.style x ≡ false) blocks k d right there)

  left_header : (t : ℕ) → t < tile_number before.siz → list_any is_left_out (header_of after t) ≡ false
  left_header t lt =
      left_with (header_of written t) (header_of after t) (headers.header t (omega (arith, lt, laws.tiles b before))) (laws.left_header b before t stand (omega (arith, lt, stand.count)))

  strict : (is : IsStrict marks out after) × (is.front ≡ written.main)
  strict = strict_with marks written anew out is ready all_short named sound

  informs : filter is_informational (written.main ++ index) ≡ filter is_informational written.main
  informs =
      let parts : List TilePart = joined is.parts 0 (tile_number written.siz) in
      ap (λ (z : List Segment). filter is_informational (written.main ++ z)) (index_is marks parts) ∙ tlm_informs written.main (index_held marks parts)

  kept : IsKeptIn w rule before after blocks out
  kept = record {
    read = output_read marks written anew out is ready all_short;
    gathered = output_gathered marks written anew out is ready all_short named sound;
    formed = output_formed marks written anew out is ready all_short named sound;
    strict = strict.0;
    orders = λ t lt. headers.entries t (omega (arith, lt, laws.tiles b before));
    left_main = ap (λ (z : List Segment). list_any is_left_out z) strict.1 ∙ laws.left_main b before stand;
    left_header = left_header;
    informs = ap (λ (z : List Segment). filter is_informational z) headers.main ∙ informs ∙ laws.informs b before stand;
    siz = headers.siz ∙ siz_written b before;
    params = λ t c. headers.params t c ∙ keep.params b before t c stand;
    steps = λ t c r band. headers.step t c r band ∙ keep.steps b before t c r band stand;
    planes = λ t c r band. headers.planes t c r band ∙ keep.planes b before t c r band stand;
    places = λ t. headers.places t ∙ keep.places b before t stand;
    meaning = same_meaning index written after anew headers ∙ keep.meaning w rule before blocks makes.0 stand sound_read free.whole;
    first = first_layers;
  }

  pub rewritten_read : (after : Stream) × IsKeptIn w rule before after blocks out
  rewritten_read = (after, kept)
