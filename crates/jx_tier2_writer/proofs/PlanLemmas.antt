-- What a plan gives for its tiles: headers that a file may be written from, and each tile's blocks as they are written.
use Rattle.std.proofs.Common.{◌≡◌, ◌∙◌, ◌<◌, ◌≤◌, ◌+◌, ◌^◌, ℕ, arith, get_or, List, [], ◌∷◌, length, map, sym, ap, subst, None, Some}
use Rattle.std.specs.List.{All, slice_get}
use Rattle.std.specs.Option.{option_map}
use Rattle.std.proofs.lemmas.List.{length-map}
use Rattle.std.proofs.lemmas.Option.{slice_get-get_or, slice_get-map}
use Rattle.jx_base.specs.declared.pieces.Block.{Block}
use Rattle.jx_base.specs.Pieces.{PieceValue}
use Rattle.jx_geom.specs.declared.shape.Canvas.{Canvas}
use Rattle.jx_geom.specs.declared.shape.CompShape.{CompShape}
use Rattle.jx_geom.specs.Counts.{tile_blocks}
use Rattle.jx_geom.specs.Geometry.{rect_of_tile}
use Rattle.jx_geom.specs.Numbering.{blocks_below}
use Rattle.jx_geom.specs.Rects.{tile_rect}
use Rattle.jx_geom.specs.Same.{AllSameBlocks}
use Rattle.jx_codestream.specs.declared.Stream.{Stream}
use Rattle.jx_codestream.specs.First.{canvas_of, tile_number}
use Rattle.jx_codestream.specs.InRange.{StreamInRange}
use Rattle.jx_codestream.specs.Shapes.{geometry, layers_of, shapes_of}
use Rattle.jx_codestream.specs.Spells.{part_bytes}
use Rattle.jx_tile.specs.Totals.{totals_fault}
use Rattle.jx_codeblock.specs.Recoded.{WrittenBlock}
use Rattle.jx_plan.specs.Headers.{HeaderOptions, comp_written, stream_written, with_layers}
use Rattle.jx_plan.specs.Causes.{IsFree}
use Rattle.jx_plan.specs.Plan.{IsPlan, Plan, headers_of, headers_with}
use Rattle.jx_plan.specs.Standing.{HeadersStand}
use Rattle.jx_options.specs.Wanted.{MayBeWanted, Wanted}
use Rattle.jx_tier2_writer.specs.Assembled.{AreOwn, AreTileBytes}
use Rattle.jx_tier2_writer.specs.Assembled.{HasMoreBytes}
use Rattle.jx_tier2_writer.specs.Own.{AreOwnBlocks}
use Rattle.jx_tier2_writer.specs.Ready.{AreReady}
use Rattle.jx_tier2_writer.specs.Tile.{AreAtMost, AreValuesOf, IsTile, IsTooLong, StandIn, block_written, blocks_in, first_block}
use Rattle.jx_tier2_writer.proofs.CountLemmas.{same_below}
use Rattle.jx_plan.proofs.ReadBackLemmas.{comps_are as written_comps}
use Rattle.jx_plan.proofs.StreamLemmas.{canvas_stays as written_canvas, tile_number_stays as written_tiles}
use Rattle.jx_geom.proofs.SameLemmas.{same_tile}

-- ---- headers, by the law on those that are written
abbrev pub WrittenReady : Type 0
WrittenReady =
    (w : Wanted) (layers : ℕ) (s : Stream) → 1 ≤ layers → layers < 2 ^ 16 → MayBeWanted w → HeadersStand s → StreamInRange s → totals_fault s ≡ None → IsFree s w layers
    → AreReady w.marks (headers_with w layers s)

pub plan_ready : (p : Plan) → IsPlan p → WrittenReady → AreReady p.wanted.marks (headers_of p)
plan_ready p is written =
    written p.wanted p.layers p.stream is.some is.few is.wanted is.may.headers is.may.range is.may.totals (record { fits = is.fits; few = is.packets; placed = is.placed; parts = is.parts; entries = is.entries; claimed = is.claimed })

-- ---- a tile's blocks, by the laws on parameters that stay
pub record ParametersStay : Type 0 where
  pub shapes : (a : HeaderOptions) (s : Stream) (t : ℕ) → HeadersStand s → shapes_of (stream_written a s) t ≡ map (comp_written a.wanted.precincts) (shapes_of s t)
  pub layers : (a : HeaderOptions) (s : Stream) (t : ℕ) → HeadersStand s → layers_of (stream_written a s) t ≡ a.layers

module _ (p : Plan) (is : IsPlan p) (stay : ParametersStay) where
  abbrev a : HeaderOptions
  a = with_layers p.wanted p.layers

  pub plan_inside : (t : ℕ) → t < tile_number p.stream.siz → t < tile_number (headers_of p).siz
  plan_inside t inside = let same : tile_number (headers_of p).siz ≡ tile_number p.stream.siz = written_tiles a p.stream in omega arith

  canvas_is : canvas_of (headers_of p).siz ≡ canvas_of p.stream.siz
  canvas_is = written_canvas a p.stream

  blocks_are : (t : ℕ) → t < tile_number p.stream.siz → AllSameBlocks (shapes_of p.stream t) (shapes_of (headers_of p) t)
  blocks_are t inside =
      subst (λ (xs : List CompShape). AllSameBlocks (shapes_of p.stream t) xs) (sym (stay.shapes a p.stream t is.may.headers)) (is.fits.blocks t inside)

  first_is : (t : ℕ) → t < tile_number p.stream.siz → blocks_below (canvas_of (headers_of p).siz) (shapes_of (headers_of p)) t ≡ first_block p t
  first_is t inside =
      ap (λ (c : Canvas). blocks_below c (shapes_of (headers_of p)) t) canvas_is
      ∙ sym (same_below (canvas_of p.stream.siz) (shapes_of p.stream) (shapes_of (headers_of p)) t (λ n lt. blocks_are n (omega arith)))

  count_is : (t : ℕ) → t < tile_number p.stream.siz → tile_blocks (rect_of_tile (geometry (headers_of p) t)) (shapes_of (headers_of p) t) ≡ blocks_in p t
  count_is t inside =
      ap (λ (c : Canvas). tile_blocks (tile_rect c t) (shapes_of (headers_of p) t)) canvas_is
      ∙ sym (same_tile (tile_rect (canvas_of p.stream.siz) t) (shapes_of p.stream t) (shapes_of (headers_of p) t) (blocks_are t inside))

  all_are : (t : ℕ) (values : List WrittenBlock) → t < tile_number p.stream.siz → AreValuesOf p t values
      → length (map block_written values) ≡ tile_blocks (rect_of_tile (geometry (headers_of p) t)) (shapes_of (headers_of p) t)
  all_are t values inside are = length-map values block_written ∙ are.count ∙ sym (count_is t inside)

  pub plan_own : (t : ℕ) (values : List WrittenBlock) → t < tile_number p.stream.siz → AreValuesOf p t values
      → AreOwnBlocks (headers_of p) (geometry (headers_of p) t) (map block_written values)
  plan_own t values inside are =
      let Within : ℕ → Type 0 = λ n. All (λ (b : Block). All (λ (q : PieceValue). q.layer < n) b.pieces) (map block_written values) in
      record {
        all = all_are t values inside are;
        sound = are.sound;
        layers = subst Within (sym (stay.layers a p.stream t is.may.headers)) are.layers;
      }

  pub plan_stands : (blocks : List Block) (t : ℕ) (values : List WrittenBlock) → t < tile_number p.stream.siz → AreValuesOf p t values → StandIn blocks p t values
      → AreOwn (headers_of p) t blocks (map block_written values)
  plan_stands blocks t values inside are stand = record {
    all = all_are t values inside are;
    each = λ i lt. at values i (omega (arith, length-map values block_written)) (ap (λ (n : ℕ). slice_get blocks (n + i)) (first_is t inside)) (stand i);
  }
    where
      at : (vs : List WrittenBlock) (i : ℕ) → i < length vs
          → slice_get blocks (blocks_below (canvas_of (headers_of p).siz) (shapes_of (headers_of p)) t + i) ≡ slice_get blocks (first_block p t + i)
          → ((r : WrittenBlock) → slice_get vs i ≡ Some r → slice_get blocks (first_block p t + i) ≡ Some (block_written r))
          → slice_get blocks (blocks_below (canvas_of (headers_of p).siz) (shapes_of (headers_of p)) t + i) ≡ slice_get (map block_written vs) i
      at [] i lt e each = absurd (omega arith)
      at (v ∷ vs) i lt e each =
          let got : slice_get (v ∷ vs) i ≡ Some (get_or (v ∷ vs) i v) = slice_get-get_or (v ∷ vs) i v lt in
          e ∙ each (get_or (v ∷ vs) i v) got ∙ sym (slice_get-map block_written (v ∷ vs) i ∙ ap (option_map block_written) got)

-- ---- its tile-parts
pub is_tile : (p : Plan) (blocks : List Block) (t most : ℕ) (bytes : List (List ℕ)) → (is : AreTileBytes p.wanted.marks (headers_of p) blocks t bytes) × AreAtMost most is.parts
    → IsTile p blocks t most bytes
is_tile p blocks t most bytes (is, few) = record {
  parts = is.parts;
  are = is.are;
  short = few;
  bytes_are = is.bytes_are ∙ ap (λ (n : ℕ). map (part_bytes n) is.parts) (written_comps (with_layers p.wanted p.layers) p.stream);
}

pub is_too_long : (p : Plan) (blocks : List Block) (t most : ℕ) → HasMoreBytes p.wanted.marks (headers_of p) blocks t most → IsTooLong p blocks t most
is_too_long p blocks t most is = record { parts = is.parts; are = is.are; long = is.long }
