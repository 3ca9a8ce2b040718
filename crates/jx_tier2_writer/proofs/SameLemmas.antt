-- A stream with the same headers, but for PLT and TLM segments, has the same parameters, geometry, packets and blocks.
use Rattle.std.proofs.Common.{◌≡◌, ◌∙◌, ◌+◌, ◌*◌, ◌^◌, ℕ, nat_lt, arith, List, map, refl, sym, ap, subst, Option}
use Rattle.std.proofs.Math.Path.{fun_ext}
use Rattle.std.specs.List.{flat_map, range_with_len, slice_get}
use Rattle.std.specs.Option.{option_or}
use Rattle.jx_base.specs.declared.names.Band.{Band}
use Rattle.jx_base.specs.declared.names.BlockName.{BlockName}
use Rattle.jx_base.specs.declared.pieces.Block.{Block}
use Rattle.jx_base.specs.Bands.{bands_at}
use Rattle.jx_base.specs.Joined.{sum_below}
use Rattle.jx_marker.specs.declared.Segment.{Segment}
use Rattle.jx_geom.specs.declared.shape.CompShape.{CompShape}
use Rattle.jx_geom.specs.Counts.{tile_precincts}
use Rattle.jx_geom.specs.Rects.{block_rect, tile_rect}
use Rattle.jx_geom.specs.Geometry.{Geometry, rect_of_tile, shape_of}
use Rattle.jx_geom.specs.Numbering.{IsBlock, block_number, blocks_below, blocks_of_all}
use Rattle.jx_geom.specs.Precincts.{leaf_number, leaves, cells_at}
use Rattle.jx_tier2_reader.specs.Planned.{leaf_from, leaf_in, leaves_of_blocks}
use Rattle.jx_tile.specs.Totals.{block_total, packet_total, tile_packets, totals_fault}
use Rattle.jx_tile.specs.Faults.{passed}
use Rattle.jx_tier2_reader.specs.Written.{WrittenPacket}
use Rattle.jx_tier2_reader.proofs.AnotherLemmas.{blocks_of_other}
use Rattle.jx_base.specs.Pieces.{PieceValue}
use Rattle.jx_options.specs.declared.Marks.{Marks}
use Rattle.jx_tier2_writer.specs.TileParts.{packet_of, packets_of, state_before}
use Rattle.jx_tier2_writer.proofs.AlikeLemmas.{AreAlike, params_alike, params_main, planes_alike, planes_main, shapes_alike, shapes_main, step_alike, step_main}
use Rattle.jx_packet_header.specs.Packet.{State}
use Rattle.jx_packet_header.specs.Written.{Leafed}
use Rattle.jx_progression.specs.declared.names.PacketName.{PacketName}
use Rattle.jx_progression.specs.Steps.{name_of}
use Rattle.jx_codestream.specs.declared.Params.{Params}
use Rattle.jx_codestream.specs.declared.Stream.{Stream}
use Rattle.jx_codestream.specs.declared.Tile.{Tile}
use Rattle.jx_codestream.specs.First.{canvas_of, tile_number}
use Rattle.jx_codestream.specs.Params.{header_in, header_of, params_of, planes_at, step_of}
use Rattle.jx_codestream.specs.Shapes.{geometry, layers_of, shapes_of, style_of}
use Rattle.jx_tier2_reader.specs.Another.{HaveSameBlocks, rect_in}
use Rattle.jx_tier2_reader.specs.BlockOf.{AreBlocksOf, pieces_at}
use Rattle.jx_tile.specs.Cells.{precinct_bands, sizes_of}
use Rattle.jx_tier2_reader.specs.Carries.{block_in, carried_bytes, pieces_of}
use Rattle.jx_base.specs.Limits.{most_blocks}

abbrev pub with_headers : Stream → List Segment → List Tile → Stream
with_headers s main tiles = record { siz = s.siz; main = main; tiles = tiles }

module _ (s : Stream) (main : List Segment) (tiles : List Tile) (same : AreAlike main s.main) (alike : (t : ℕ) → AreAlike (header_in (slice_get tiles t)) (header_of s t)) where
  abbrev it : Stream
  it = with_headers s main tiles

  pub params_same : (t c : ℕ) → params_of it t c ≡ params_of s t c
  params_same t c = params_alike (header_in (slice_get tiles t)) (header_of s t) (alike t) main c ∙ params_main main s.main same (header_of s t) c

  pub layers_same : (t : ℕ) → layers_of it t ≡ layers_of s t
  layers_same t = ap (λ (p : Params). p.layers) (params_same t 0)

  pub style_same : (t c : ℕ) → style_of it t c ≡ style_of s t c
  style_same t c = ap (λ (p : Params). p.style.bits) (params_same t c)

  pub planes_same : (t c r : ℕ) (b : Band) → planes_at it t c r b ≡ planes_at s t c r b
  planes_same t c r b = planes_alike (header_in (slice_get tiles t)) (header_of s t) (alike t) main c r b ∙ planes_main main s.main same (header_of s t) c r b

  pub step_same : (t c r : ℕ) (b : Band) → step_of it t c r b ≡ step_of s t c r b
  step_same t c r b = step_alike (header_in (slice_get tiles t)) (header_of s t) (alike t) main c r b ∙ step_main main s.main same (header_of s t) c r b

  shapes_same_at : (t : ℕ) → shapes_of it t ≡ shapes_of s t
  shapes_same_at t = shapes_alike (header_in (slice_get tiles t)) (header_of s t) (alike t) s.siz main ∙ shapes_main main s.main same s.siz (header_of s t)

  pub shapes_same : shapes_of it ≡ shapes_of s
  shapes_same = fun_ext shapes_same_at

  pub geometry_same : (t : ℕ) → geometry it t ≡ geometry s t
  geometry_same t = ap (λ (x : List CompShape). record { canvas = canvas_of s.siz; tile = t; shapes = x }) (shapes_same_at t)

  -- ---- limits 5 and 6
  blocks_total_same : block_total it ≡ block_total s
  unfolding block_total
  blocks_total_same = ap (λ (f : ℕ → List CompShape). blocks_of_all (canvas_of s.siz) f) shapes_same

  tile_packets_same : (t : ℕ) → tile_packets it t ≡ tile_packets s t
  tile_packets_same t =
      ap (λ (x : List CompShape). tile_precincts (tile_rect (canvas_of s.siz) t) x * layers_of it t) (shapes_same_at t)
      ∙ ap (λ (n : ℕ). tile_precincts (tile_rect (canvas_of s.siz) t) (shapes_of s t) * n) (layers_same t)

  packets_total_same : packet_total it ≡ packet_total s
  unfolding packet_total
  packets_total_same = ap (λ (f : ℕ → ℕ). sum_below f (tile_number s.siz)) (fun_ext tile_packets_same)

  pub totals_same : totals_fault it ≡ totals_fault s
  unfolding totals_fault
  totals_same =
      ap (λ (n : ℕ). option_or (passed 5 n (nat_lt most_blocks n)) (passed 6 (packet_total it) (nat_lt (2 ^ 22) (packet_total it)))) blocks_total_same
      ∙ ap (λ (n : ℕ). option_or (passed 5 (block_total s) (nat_lt most_blocks (block_total s))) (passed 6 n (nat_lt (2 ^ 22) n))) packets_total_same

  -- ---- blocks
  same_rect : (n : BlockName) → rect_in s n ≡ rect_in it n
  same_rect n = ap (λ (g : Geometry). block_rect (rect_of_tile g) (shape_of g n.comp) n.res n.band n.index) (sym (geometry_same n.tile))

  have_same : HaveSameBlocks s it
  have_same = record {
    all = sym blocks_total_same;
    each = λ n is. record {
      there = (let P : (ℕ → List CompShape) → Type 0 = λ f. IsBlock (canvas_of s.siz) f n in subst P shapes_same is);
      number = ap (λ (f : ℕ → List CompShape). block_number (canvas_of s.siz) f n) (sym shapes_same);
      rect = same_rect n;
      planes = sym (planes_same n.tile n.comp n.res n.band);
      style = sym (style_same n.tile n.comp);
      layers = (let e = layers_same n.tile in omega arith);
    };
  }

  pub blocks_same : (blocks : List Block) → AreBlocksOf s blocks → AreBlocksOf it blocks
  blocks_same blocks are = blocks_of_other s it blocks have_same are

  -- ---- packets
  module _ (blocks : List Block) (t : ℕ) where
    bands_same : (c r k : ℕ) → precinct_bands it (geometry it t) c r k ≡ precinct_bands s (geometry s t) c r k
    unfolding precinct_bands
    bands_same c r k =
        ap (λ (g : Geometry). map (λ (b : Band). sizes_of (cells_at g c r k b) (planes_at it t c r b)) (bands_at r)) (geometry_same t)
        ∙ ap (λ (f : Band → ℕ). map (λ (b : Band). sizes_of (cells_at (geometry s t) c r k b) (f b)) (bands_at r)) (fun_ext (λ b. planes_same t c r b))

    block_same : (p : PacketName) (j : ℕ) → block_in it t blocks p j ≡ block_in s t blocks p j
    block_same p j =
        ap (λ (f : ℕ → List CompShape). slice_get blocks (blocks_below (canvas_of s.siz) f t + leaf_number (geometry it t) p.comp p.res p.precinct j)) shapes_same
        ∙ ap (λ (g : Geometry). slice_get blocks (blocks_below (canvas_of s.siz) (shapes_of s) t + leaf_number g p.comp p.res p.precinct j)) (geometry_same t)

    leaves_count : (c r k : ℕ) → leaves (geometry it t) c r k ≡ leaves (geometry s t) c r k
    leaves_count c r k = ap (λ (g : Geometry). leaves g c r k) (geometry_same t)

    leaves_same : (c r k : ℕ) → leaves_of_blocks it t blocks c r k ≡ leaves_of_blocks s t blocks c r k
    unfolding leaves_of_blocks
    leaves_same c r k =
        ap (λ (f : ℕ → Leafed). map f (range_with_len 0 (leaves (geometry it t) c r k))) (fun_ext (λ j. ap (leaf_from j) (block_same (name_of 0 r c k) j)))
        ∙ ap (λ (n : ℕ). map (leaf_in s t blocks c r k) (range_with_len 0 n)) (leaves_count c r k)

    bytes_same : (p : PacketName) → carried_bytes it t blocks p ≡ carried_bytes s t blocks p
    bytes_same p = fun_ext (λ j. ap (λ (o : Option Block). flat_map (λ (q : PieceValue). q.bytes) (pieces_at p.layer (pieces_of o))) (block_same p j))

    packet_same : (m : Marks) (p : PacketName) → packet_of m it t blocks p ≡ packet_of m s t blocks p
    packet_same m p =
        rw (layers_same t, style_same t p.comp, bands_same p.comp p.res p.precinct, leaves_same p.comp p.res p.precinct, bytes_same p, leaves_count p.comp p.res p.precinct) refl

    state_same : (p : PacketName) → state_before it t blocks p ≡ state_before s t blocks p
    state_same p = rw (layers_same t, style_same t p.comp, bands_same p.comp p.res p.precinct, leaves_same p.comp p.res p.precinct) refl

    pub packets_same : (m : Marks) → packets_of m it t blocks ≡ packets_of m s t blocks
    unfolding packets_of
    packets_same m =
        ap (λ (f : PacketName → WrittenPacket). record { written = f; before = state_before it t blocks }) (fun_ext (packet_same m))
        ∙ ap (λ (f : PacketName → State). record { written = packet_of m s t blocks; before = f }) (fun_ext state_same)
