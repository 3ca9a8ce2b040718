-- Totals over the tiles and components of a stream in range, and what the limits on them say of one tile.
use Rattle.std.proofs.Common.{◌≡◌, ◌<◌, ◌≤◌, ◌^◌, ℕ, arith, length, refl, nat_lt, Option, Some, None}
use Rattle.std.specs.Option.{option_or}
use Rattle.std.proofs.lemmas.Bool.Decides.{nat_tests}
use Rattle.jx_base.specs.declared.names.Rect.{Rect}
use Rattle.jx_geom.specs.Rects.{tile_rect}
use Rattle.jx_geom.specs.Counts.{tile_blocks, tile_precincts}
use Rattle.jx_geom.specs.Numbering.{blocks_below}
use Rattle.jx_geom.specs.Geometry.{WithinLimits, GeometryInRange}
use Rattle.jx_codestream.specs.declared.Stream.{Stream}
use Rattle.jx_codestream.specs.First.{canvas_of, tile_number}
use Rattle.jx_codestream.specs.declared.faults.StreamFault.{StreamFault}
use Rattle.jx_tile.specs.Faults.{passed}
use Rattle.jx_codestream.specs.Shapes.{shapes_of, geometry, layers_of}
use Rattle.jx_codestream.specs.InRange.{StreamInRange}
use Rattle.jx_tile.specs.Totals.{block_total, tile_packets, packet_total, totals_fault}
use Rattle.jx_codestream.proofs.RangeLemmas.{shapes_length}
use Rattle.jx_base.specs.Joined.{sum_below}
use Rattle.jx_base.proofs.Sums.{sum_below_more}
use Rattle.jx_tagtree.proofs.ShapeLemmas.{le_product}
use Rattle.jx_base.specs.Limits.{most_blocks}

pub blocks_are : (s : Stream) → block_total s ≡ blocks_below (canvas_of s.siz) (shapes_of s) (tile_number s.siz)
unfolding block_total
blocks_are s = refl

pub packets_are : (s : Stream) → packet_total s ≡ sum_below (tile_packets s) (tile_number s.siz)
unfolding packet_total
packets_are s = refl

-- the limits on all bound each tile

record WithinTotals (s : Stream) : Type 0 where
  pub blocks : block_total s ≤ most_blocks
  pub packets : packet_total s ≤ 2 ^ 22

pub not_passed : (number found most : ℕ) → passed number found (nat_lt most found) ≡ None → found ≤ most
not_passed number found most h = grind (arith, nat_tests)

first_none : (first later : Option StreamFault) → option_or first later ≡ None → (first ≡ None) × (later ≡ None)
first_none None later h = (refl, h)
first_none (Some f) later h = absurd (cc)

within_totals : (s : Stream) → totals_fault s ≡ None → WithinTotals s
unfolding totals_fault
within_totals s h =
    let both = first_none (passed 5 (block_total s) (nat_lt (most_blocks) (block_total s))) (passed 6 (packet_total s) (nat_lt (2 ^ 22) (packet_total s))) h in
    record { blocks = not_passed 5 (block_total s) (most_blocks) both.0; packets = not_passed 6 (packet_total s) (2 ^ 22) both.1 }

pub tile_within : (s : Stream) (t : ℕ) → StreamInRange s → totals_fault s ≡ None → t < tile_number s.siz → WithinLimits (canvas_of s.siz) t (shapes_of s t)
tile_within s t range none inside =
    let all = within_totals s none in
    let rect : Rect = tile_rect (canvas_of s.siz) t in
    let blocks = sum_below_more (λ (n : ℕ). tile_blocks (tile_rect (canvas_of s.siz) n) (shapes_of s n)) t (tile_number s.siz) inside in
    let packets = sum_below_more (tile_packets s) t (tile_number s.siz) inside in
    record {
      blocks = omega (arith, blocks, blocks_are s, all.blocks);
      precincts = omega (arith, packets, packets_are s, all.packets, le_product (tile_precincts rect (shapes_of s t)) (layers_of s t) (range.some_layers t inside));
    }

pub few_shapes : (s : Stream) (t : ℕ) → StreamInRange s → length (shapes_of s t) ≤ 2 ^ 14
few_shapes s t range = omega (arith, shapes_length s t, range.few_comps)

-- so the geometry of each tile is in range
pub geometry_fits : (s : Stream) (t : ℕ) → StreamInRange s → totals_fault s ≡ None → t < tile_number s.siz → GeometryInRange (geometry s t)
geometry_fits s t range none inside = record { canvas = range.canvas; tile = inside; few = few_shapes s t range; shapes = range.shapes t inside; limits = tile_within s t range none inside }
