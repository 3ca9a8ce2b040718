-- What a plan stands on: how many layers a stream has, a block at its number, and the headers that are written.
use Rattle.std.proofs.Common.{◌≡◌, ◌<◌, ◌≤◌, ◌^◌, ◌∙◌, ap, sym, subst, arith, ℕ, false, List, [], length, nat_lt, Option, None, Some}
use Rattle.std.specs.List.{All, slice_get}
use Rattle.std.specs.Option.{IfSome}
use Rattle.std.proofs.lemmas.Bool.Decides.{nat_tests}
use Rattle.std.proofs.lemmas.Option.{get_or_from_slice_get}
use Rattle.jx_base.specs.declared.names.BlockName.{BlockName}
use Rattle.jx_base.specs.declared.pieces.Block.{Block}
use Rattle.jx_base.specs.declared.style.Style.{Style}
use Rattle.jx_base.specs.Sound.{IsSound}
use Rattle.jx_geom.specs.declared.shape.Canvas.{Canvas}
use Rattle.jx_geom.specs.Ranges.{CanvasInRange}
use Rattle.jx_geom.specs.Counts.{tile_count}
use Rattle.jx_geom.specs.Numbering.{IsBlock, block_number}
use Rattle.jx_geom.proofs.NumberLemmas.{block_number_taken}
use Rattle.jx_geom.proofs.TileLemmas.{place_in_one_tile}
use Rattle.jx_codestream.specs.declared.Stream.{Stream}
use Rattle.jx_codestream.specs.First.{canvas_of, tile_number}
use Rattle.jx_codestream.specs.Shapes.{shapes_of}
use Rattle.jx_codestream.specs.InRange.{StreamInRange}
use Rattle.jx_tier2_reader.specs.BlockOf.{AreBlocksOf, IsBlockOf, IsFoundOf}
use Rattle.jx_codestream.specs.Read.{IsRead}
use Rattle.jx_codestream.proofs.RangeLemmas.{read_in_range}
use Rattle.jx_tile.specs.Covered.{IsWhole}
use Rattle.jx_tier2_reader.specs.Gathered.{IsGathered}
use Rattle.jx_tier2_reader.proofs.BlockOfLemmas.{blocks_of_stream}
use Rattle.jx_tier2_reader.proofs.SoundLemmas.{sound_gathered}
use Rattle.jx_tile.specs.Totals.{block_total, packet_total, totals_fault}
use Rattle.jx_plan.specs.Causal.{breaks_plane, first_broken}
use Rattle.jx_plan.specs.Facts.{most_layers}
use Rattle.jx_plan.specs.Fits.{Fits}
use Rattle.jx_tile_parts.specs.Groups.{HasFewParts}
use Rattle.jx_plan.specs.Headers.{MayBeInHeaders, with_layers}
use Rattle.jx_plan.specs.Plan.{MayBePlanned, headers_with, most_packets}
use Rattle.jx_options.specs.Wanted.{MayBeStyle, MayBeWanted, Wanted}
use Rattle.jx_plan.proofs.BlockLemmas.{blocks_are}
use Rattle.jx_plan.proofs.ReadLemmas.{read_stands}
use Rattle.jx_tile.specs.Faults.{passed}
use Rattle.jx_plan.specs.Changes.{has_long, has_outside, main_order}
use Rattle.jx_plan.specs.Standing.{HeadersStand}
use Rattle.jx_plan.specs.Strays.{HasNoStray}
use Rattle.jx_marker.specs.declared.Progression.{Progression}
use Rattle.jx_codestream.specs.Shapes.{tile_at}
use Rattle.jx_plan.proofs.CoverLemmas.{written_whole}
use Rattle.jx_plan.proofs.PlainLemmas.{blocks_pass, totals_plain}
use Rattle.jx_plan.proofs.RangeLemmas.{written_in_range}
use Rattle.jx_plan.proofs.CausalLemmas.{none_at}
use Rattle.jx_plan.proofs.FactLemmas.{layers_most}
use Rattle.jx_plan.proofs.StreamLemmas.{tile_number_stays}
use Rattle.jx_base.specs.Limits.{most_blocks, most_bytes}

-- ---- the greatest number of layers
pub some_tile : (c : Canvas) → CanvasInRange c → 0 < tile_count c
some_tile c fit =
    let one = place_in_one_tile c c.x0 c.y0 fit (record {
      across = record { from = omega arith; below = omega (arith, fit.some_across) };
      down = record { from = omega arith; below = omega (arith, fit.some_down) };
    }) in
    omega (arith, one.holds.0)

pub some_layers : (s : Stream) → StreamInRange s → 1 ≤ most_layers s
some_layers s r =
    let inside : 0 < tile_number s.siz = some_tile (canvas_of s.siz) r.canvas in
    omega (arith, layers_most s 0 inside, r.some_layers 0 inside)

-- ---- a block at its number
pub block_at : (s : Stream) (blocks : List Block) (n : ℕ) (b : Block) → AreBlocksOf s blocks → slice_get blocks n ≡ Some b → n < length blocks
    → (name : BlockName) × (IsBlock (canvas_of s.siz) (shapes_of s) name × IsBlockOf s name b)
block_at s blocks n b are at inside =
    let name = block_number_taken (canvas_of s.siz) (shapes_of s) n (omega (arith, inside, are.all, blocks_are s)) in
    let found : IsFoundOf s name.0 (slice_get blocks (block_number (canvas_of s.siz) (shapes_of s) name.0)) = are.each name.0 name.1.0 in
    (name.0, (name.1.0, subst (IsFoundOf s name.0) (ap (λ (k : ℕ). slice_get blocks k) name.1.1 ∙ at) found))

pub sound_at : (blocks : List Block) (n : ℕ) (b : Block) → All IsSound blocks → slice_get blocks n ≡ Some b → n < length blocks → IsSound b
sound_at blocks n b sound at inside = subst IsSound (get_or_from_slice_get blocks n b b at) (sound n b inside)

not_passed : (found most : ℕ) → passed 5 found (nat_lt most found) ≡ None → found ≤ most
not_passed found most h = grind (arith, nat_tests)

pub few_blocks : (s : Stream) (blocks : List Block) → MayBePlanned s blocks → length blocks ≤ most_blocks
few_blocks s blocks may = omega (arith, may.blocks_are.all, not_passed (block_total s) most_blocks (blocks_pass s may.totals))

-- it keeps its causal bit within planes
pub whole_at : (style : Option Style) (blocks : List Block) (n : ℕ) (b : Block) → first_broken style blocks ≡ None → slice_get blocks n ≡ Some b → n < length blocks → breaks_plane style b ≡ false
whole_at style blocks n b whole at inside =
    subst (λ (x : Block). breaks_plane style x ≡ false) (get_or_from_slice_get blocks n b b at) (none_at (breaks_plane style) blocks whole n b inside)

-- ---- the headers that are written
pub style_few : (o : Option Style) → IfSome o MayBeStyle → IfSome o (λ (style : Style). style.bits < 64)
style_few None may = tt
style_few (Some style) may = may.few

may_ask : (w : Wanted) (layers : ℕ) → MayBeWanted w → 1 ≤ layers → layers < 2 ^ 16 → MayBeInHeaders (with_layers w layers)
may_ask w layers wanted some few = record { some = some; few = few; order = wanted.order; changes = wanted.changes; bytes = wanted.bytes; style = style_few w.style wanted.style }

module _ (w : Wanted) (layers : ℕ) (s other : Stream) (stand : HeadersStand s) (range : StreamInRange s) (wanted : MayBeWanted w) (fits : Fits w.precincts s) (some : 1 ≤ layers)
    (few : layers < 2 ^ 16) (is : other ≡ headers_with w layers s) where
  pub headers_in_range : StreamInRange other
  headers_in_range = subst StreamInRange (sym is) (written_in_range (with_layers w layers) s (may_ask w layers wanted some few) fits.above stand range)

  pub headers_pass : totals_fault s ≡ None → packet_total (headers_with w layers s) ≤ most_packets → totals_fault other ≡ None
  headers_pass totals packets = ap totals_fault is ∙ totals_plain (with_layers w layers) s stand fits totals packets

  tile_there : (t : ℕ) → t < tile_number other.siz → t < tile_number s.siz
  tile_there t inside = omega (arith, inside, ap (λ (x : Stream). tile_number x.siz) is, tile_number_stays (with_layers w layers) s)

  pub headers_whole : HasNoStray s w layers → (t : ℕ) → t < tile_number other.siz → IsWhole other t
  headers_whole placed t inside = subst (λ (x : Stream). IsWhole x t) (sym is) (placed.each t (tile_there t inside)).whole

  -- nothing is asked of progression changes
  pub none_placed : w.changes ≡ Some [] → HasNoStray s w layers
  none_placed none = record {
    comps = ap (has_outside (length s.siz.comps)) none;
    each = λ t inside. record {
      room = ap (λ (o : Option (List Progression)). has_long (length s.siz.comps) o (main_order s.main) (tile_at s t)) none;
      whole = written_whole (with_layers w layers) s t (may_ask w layers wanted some few) none fits.above stand range inside;
    };
  }

pub few_made : (w : Wanted) (layers : ℕ) (s other : Stream) → other ≡ headers_with w layers s → ((t : ℕ) → t < tile_number other.siz → HasFewParts w.marks.parts other t)
    → (t : ℕ) → t < tile_number s.siz → HasFewParts w.marks.parts (headers_with w layers s) t
few_made w layers s other is few t inside =
    let there : t < tile_number other.siz = omega (arith, inside, ap (λ (x : Stream). tile_number x.siz) is, tile_number_stays (with_layers w layers) s) in
    subst (λ (x : Stream). HasFewParts w.marks.parts x t) is (few t there)

-- ---- what was read may be planned
pub gathered_may : (b : List ℕ) (s : Stream) (blocks : List Block) → IsRead b s → length b ≤ most_bytes → totals_fault s ≡ None → IsGathered b s blocks → MayBePlanned s blocks
gathered_may b s blocks read fits totals gathered = record {
  headers = read_stands b s read;
  range = read_in_range b s read;
  totals = totals;
  blocks_are = blocks_of_stream b s blocks read fits totals gathered;
  sound = sound_gathered b s blocks read fits totals gathered;
}
