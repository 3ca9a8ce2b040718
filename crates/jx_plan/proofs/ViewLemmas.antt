-- Code-blocks, packets and ranges of the stream that is written, and of one with comments and packet lengths more.
use Rattle.std.proofs.Common.{◌≡◌, ◌∙◌, ◌<◌, ◌≤◌, ◌*◌, ℕ, arith, List, length, refl, sym, subst, None}
use Rattle.std.proofs.Math.Path.{fun_ext}
use Rattle.jx_base.specs.declared.names.BlockName.{BlockName}
use Rattle.jx_base.specs.Joined.{sum_below}
use Rattle.jx_geom.specs.declared.shape.Canvas.{Canvas}
use Rattle.jx_geom.specs.declared.shape.CompShape.{CompShape}
use Rattle.jx_geom.specs.Rects.{tile_rect}
use Rattle.jx_geom.specs.Counts.{tile_count, tile_precincts}
use Rattle.jx_geom.specs.Geometry.{Geometry}
use Rattle.jx_geom.specs.Same.{AllSameBlocks}
use Rattle.jx_marker.specs.declared.Progression.{Progression}
use Rattle.jx_progression.specs.Packets.{AreCovered}
use Rattle.jx_codestream.specs.declared.Stream.{Stream}
use Rattle.jx_codestream.specs.First.{canvas_of, tile_number}
use Rattle.jx_codestream.specs.Shapes.{shapes_of, geometry, layers_of, tile_at}
use Rattle.jx_tile.specs.Totals.{block_total, tile_packets, packet_total, totals_fault}
use Rattle.jx_tier2_reader.specs.Another.{HasSameBlock, HaveSameBlocks}
use Rattle.jx_tile.specs.Covered.{IsWhole}
use Rattle.jx_plan.specs.Headers.{stream_written, HeaderOptions}
use Rattle.jx_plan.specs.Asides.{IsWithMore}
use Rattle.jx_plan.specs.Fits.{Fits}
use Rattle.jx_plan.specs.Standing.{HeadersStand}
use Rattle.jx_plan.proofs.StreamLemmas.{canvas_stays, shapes_stay, planes_stay, own_style, layers_are}
use Rattle.jx_plan.proofs.MoreLemmas.{canvas_with_more, shapes_with_more, planes_with_more, style_with_more, layers_with_more}
use Rattle.jx_plan.proofs.BlockLemmas.{geometries, same_shapes, totals_same, blocks_same}

-- the same blocks

pub written_shapes : (a : HeaderOptions) (s : Stream) → Fits a.wanted.precincts s → HeadersStand s → (t : ℕ) → t < tile_number s.siz → AllSameBlocks (shapes_of s t) (shapes_of (stream_written a s) t)
written_shapes a s fits stand t inside =
    let P : List CompShape → Type 0 = λ xs. AllSameBlocks (shapes_of s t) xs in
    subst P (sym (shapes_stay a s stand t)) (fits.blocks t inside)

pub written_blocks : (a : HeaderOptions) (s : Stream) → a.wanted.style ≡ None → Fits a.wanted.precincts s → HeadersStand s
    → ((t : ℕ) → t < tile_number s.siz → layers_of s t ≤ a.layers) → HaveSameBlocks s (stream_written a s)
written_blocks a s none fits stand enough =
    blocks_same s (stream_written a s) (canvas_stays a s) (written_shapes a s fits stand) (planes_stay a s stand) (own_style a s stand none)
    (λ t inside. omega (arith, enough t inside, layers_are a s stand t))

more_shapes : (s other : Stream) → IsWithMore s other → (t : ℕ) → t < tile_number s.siz → AllSameBlocks (shapes_of s t) (shapes_of other t)
more_shapes s other more t inside = same_shapes (shapes_of s t) (shapes_of other t) (shapes_with_more s other more t)

pub more_blocks : (s other : Stream) → IsWithMore s other → HaveSameBlocks s other
more_blocks s other more =
    blocks_same s other (canvas_with_more s other more) (more_shapes s other more) (planes_with_more s other more) (style_with_more s other more)
    (λ t inside. omega (arith, layers_with_more s other more t))

block_through : (s w o : Stream) (n : BlockName) → HasSameBlock s w n → HasSameBlock w o n → HasSameBlock s o n
block_through s w o n h k = record {
  there = h.there;
  number = h.number ∙ k.number;
  rect = h.rect ∙ k.rect;
  planes = h.planes ∙ k.planes;
  style = h.style ∙ k.style;
  layers = omega (arith, h.layers, k.layers);
}

pub blocks_through : (s w o : Stream) → HaveSameBlocks s w → HaveSameBlocks w o → HaveSameBlocks s o
blocks_through s w o h k = record {
  all = h.all ∙ k.all;
  each = λ n is. block_through s w o n (h.each n (k.each n is).there) (k.each n is);
}

-- the same packets, but for the layers

packets_are : (s : Stream) → packet_total s ≡ sum_below (tile_packets s) (tile_count (canvas_of s.siz))
unfolding packet_total
packets_are s = refl

packets_same : (c d : Canvas) (f g : ℕ → ℕ) → c ≡ d → f ≡ g → sum_below f (tile_count c) ≡ sum_below g (tile_count d)
packets_same c d f g e h = rw (e, h) refl

packet_count : (c d : Canvas) (xs ys : List CompShape) (t m n : ℕ) → c ≡ d → xs ≡ ys → m ≡ n → tile_precincts (tile_rect c t) xs * m ≡ tile_precincts (tile_rect d t) ys * n
packet_count c d xs ys t m n e h k = rw (e, h, k) refl

module _ (s other : Stream) (more : IsWithMore s other) where
  pub more_geometry : (t : ℕ) → geometry other t ≡ geometry s t
  more_geometry t = geometries s other (canvas_with_more s other more) (shapes_with_more s other more) t

  pub more_block_total : block_total other ≡ block_total s
  more_block_total = sym (totals_same s other (canvas_with_more s other more) (more_shapes s other more))

  pub more_packets : packet_total other ≡ packet_total s
  more_packets =
      packets_are other
      ∙ packets_same (canvas_of other.siz) (canvas_of s.siz) (tile_packets other) (tile_packets s) (canvas_with_more s other more)
      (fun_ext (λ t. packet_count (canvas_of other.siz) (canvas_of s.siz) (shapes_of other t) (shapes_of s t) t (layers_of other t) (layers_of s t) (canvas_with_more s other more)
      (shapes_with_more s other more t) (layers_with_more s other more t)))
      ∙ sym (packets_are s)

  pub more_totals : totals_fault other ≡ totals_fault s
  unfolding totals_fault
  more_totals = rw (more_block_total, more_packets) refl

  -- each packet is covered where it was

  cover_same : (g h : Geometry) (m n : ℕ) (es fs : List Progression) → g ≡ h → m ≡ n → es ≡ fs → AreCovered h n fs → AreCovered g m es
  cover_same g h m n es fs e d k whole = rw (e, d, k) whole

  pub more_whole : (t : ℕ) → t < length s.tiles → IsWhole s t → IsWhole other t
  more_whole t inside whole =
      cover_same (geometry other t) (geometry s t) (layers_of other t) (layers_of s t) (tile_at other t).progressions (tile_at s t).progressions (more_geometry t)
      (layers_with_more s other more t) (more.each t inside).progressions whole
