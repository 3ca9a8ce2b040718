-- A made file spells its stream: none of the rules 1 to 24 is violated, and none of the limits 3 to 6 is passed.
use Rattle.std.proofs.Common.{◌≡◌, ℕ, ◌+◌, ◌*◌, ◌^◌, ◌≤◌, ◌<◌, List, [], ◌∷◌, length, refl, subst, arith, inl, false, None, find}
use Rattle.std.proofs.lemmas.Bool.Decides.{nat_tests}
use Rattle.jx_geom.specs.Geometry.{Geometry, HasResolution, rect_of_tile}
use Rattle.jx_geom.specs.Rects.{tile_rect}
use Rattle.jx_geom.specs.Counts.{tile_blocks, tile_precincts}
use Rattle.jx_base.specs.Joined.{sum_below}
use Rattle.jx_marker.specs.Values.{canvas_bytes}
use Rattle.jx_codestream.specs.declared.Stream.{Stream}
use Rattle.jx_codestream.specs.declared.parts.PlacedPart.{PlacedPart}
use Rattle.jx_codestream.specs.declared.headers.HeaderKind.TheVariants.{Main}
use Rattle.jx_codestream.specs.First.{canvas_of, lacks_part, tile_number, tiles_fault}
use Rattle.jx_codestream.specs.Params.{planes_fault, tile_has_too_few, tile_planes}
use Rattle.jx_codestream.specs.Read.{IsRead}
use Rattle.jx_codestream.specs.Shapes.{geometry, layers_of, shapes_in, shapes_of}
use Rattle.jx_codestream.specs.Spells.{AreSegments, IsTilePart, Spells, first_sot, part_bytes, placed}
use Rattle.jx_codestream.specs.Tiles.{tile_of, tiles_of}
use Rattle.std.specs.Prelude.{nat_lt}
use Rattle.std.specs.Option.{option_or}
use Rattle.jx_tile.specs.Faults.{passed}
use Rattle.jx_tile.specs.Totals.{block_total, packet_total, tile_packets, totals_fault}
use Rattle.jx_generate.specs.Headers.{AreSizes, canvas_made, geometry_made, main_made, siz_made}
use Rattle.jx_generate.specs.Made.{file_with, part_with}
use Rattle.jx_generate.specs.Reading.{stream_made, tile_made}
use Rattle.jx_generate.proofs.GeometryLemmas.{count_one, level_5, limits_made, one_tile, precincts_limited, shapes_made, three_shapes}
use Rattle.jx_generate.proofs.RangeLemmas.{cod_in_range, com_in_range, qcd_in_range, siz_in_range}
use Rattle.jx_base.specs.Limits.{most_blocks}

main_stands : AreSegments Main 3 [] main_made
main_stands = (
  record { range = cod_in_range; stands = refl; once_packed = refl; inside = refl; once = refl },
  (
    record { range = qcd_in_range; stands = refl; once_packed = refl; inside = refl; once = refl },
    (record { range = com_in_range; stands = refl; once_packed = refl; inside = refl; once = refl }, tt),
  ),
)

part_long : (body : List ℕ) → 14 + length body ≡ length (part_bytes 3 (part_with body))
part_long body = omega arith

part_stands : (w h : ℕ) (body : List ℕ) → AreSizes w h → 14 + length body < 2 ^ 32 → IsTilePart false 3 (tile_number (siz_made w h)) [] (part_with body)
part_stands w h body sizes few = record {
  range = record { tile = omega arith; psot = few; part = omega arith; parts = omega arith };
  header = tt;
  tile = one_tile w h sizes;
  turn = refl;
}

abbrev part_placed : ℕ → ℕ → List ℕ → List PlacedPart
part_placed w h body = placed 3 (first_sot (siz_made w h) main_made) (part_with body ∷ [])

each_tile : (w h n : ℕ) (body : List ℕ) → n ≡ 1 → lacks_part (part_placed w h body) n ≡ false
each_tile w h n body e = rw e refl

tiles_are : (w h n : ℕ) (body : List ℕ) → n ≡ 1 → tile_made (length body) ∷ [] ≡ tiles_of main_made (part_placed w h body) n
unfolding tile_of canvas_bytes
tiles_are w h n body e = rw e refl

entries_enough : (size : ℕ) → find (tile_has_too_few main_made 3) (tile_made size ∷ []) ≡ None
unfolding tile_has_too_few
entries_enough size = refl

planes_within : (size : ℕ) → planes_fault main_made 3 (tile_made size ∷ []) ≡ None
unfolding tile_planes
planes_within size = refl

few_tiles : (w h : ℕ) → AreSizes w h → tiles_fault (siz_made w h) ≡ None
unfolding tiles_fault
few_tiles w h sizes = rw (count_one w h sizes) refl

pub spelled : (w h : ℕ) (body : List ℕ) → AreSizes w h → 14 + length body < 2 ^ 32 → Spells (file_with w h body) (stream_made w h (length body))
unfolding file_with stream_made
spelled w h body sizes few = record {
  parts = part_with body ∷ [];
  rest = [];
  bytes = refl;
  siz = siz_in_range w h sizes;
  main = main_stands;
  defaults = refl;
  some = omega arith;
  tile_parts = (part_stands w h body sizes few, inl (part_long body), tt);
  each = each_tile w h (tile_number (siz_made w h)) body (count_one w h sizes);
  packed = refl;
  tiles = tiles_are w h (tile_number (siz_made w h)) body (count_one w h sizes);
  entries = entries_enough (length body);
}

pub read_made : (w h : ℕ) (body : List ℕ) → AreSizes w h → 14 + length body < 2 ^ 32 → IsRead (file_with w h body) (stream_made w h (length body))
unfolding stream_made
read_made w h body sizes few = record {
  spelled = spelled w h body sizes few;
  tiles = few_tiles w h sizes;
  planes = planes_within (length body);
}

-- ---- the geometry, and how many blocks and packets there are

pub geometry_is : (w h size : ℕ) → geometry (stream_made w h size) 0 ≡ geometry_made w h
unfolding shapes_in stream_made geometry_made
geometry_is w h size = refl

pub layers_are : (w h size : ℕ) → layers_of (stream_made w h size) 0 ≡ 12
unfolding stream_made
layers_are w h size = refl

pub one_number : (w h size : ℕ) → AreSizes w h → tile_number (stream_made w h size).siz ≡ 1
unfolding stream_made
one_number w h size sizes = count_one w h sizes

-- no resolution above 5, and at most 18 precincts
pub few_levels : (w h size c r : ℕ) → HasResolution (geometry (stream_made w h size) 0) c r → r ≤ 5
few_levels w h size c r has =
    let P : Geometry → Type 0 = λ g. HasResolution g c r in
    let there : HasResolution (geometry_made w h) c r = subst P (geometry_is w h size) has in
    level_5 w h c r (three_shapes w h c there.component) there.level

pub few_precincts : (w h size : ℕ) → AreSizes w h → tile_precincts (rect_of_tile (geometry (stream_made w h size) 0)) (geometry (stream_made w h size) 0).shapes ≤ 18
unfolding shapes_in stream_made
few_precincts w h size sizes = precincts_limited w h sizes

sum_one : (f : ℕ → ℕ) (n : ℕ) → n ≡ 1 → sum_below f n ≡ f 0
sum_one f n e = rw e (omega arith)

blocks_own : (w h size : ℕ) → tile_blocks (tile_rect (canvas_of (stream_made w h size).siz) 0) (shapes_of (stream_made w h size) 0) ≡ tile_blocks (tile_rect (canvas_made w h) 0) shapes_made
unfolding shapes_in stream_made
blocks_own w h size = refl

precincts_own : (w h size : ℕ) → tile_packets (stream_made w h size) 0 ≡ tile_precincts (tile_rect (canvas_made w h) 0) shapes_made * 12
unfolding shapes_in stream_made
precincts_own w h size = refl

blocks_within : (w h size : ℕ) → AreSizes w h → block_total (stream_made w h size) ≤ most_blocks
unfolding block_total
blocks_within w h size sizes =
    let s : Stream = stream_made w h size in
    let one : block_total s ≡ tile_blocks (tile_rect (canvas_of s.siz) 0) (shapes_of s 0) =
    sum_one (λ n. tile_blocks (tile_rect (canvas_of s.siz) n) (shapes_of s n)) (tile_number s.siz) (one_number w h size sizes) in
    omega (arith, one, blocks_own w h size, (limits_made w h sizes).blocks)

packets_within : (w h size : ℕ) → AreSizes w h → packet_total (stream_made w h size) ≤ 2 ^ 22
unfolding packet_total
packets_within w h size sizes =
    let s : Stream = stream_made w h size in
    let one : packet_total s ≡ tile_packets s 0 = sum_one (tile_packets s) (tile_number s.siz) (one_number w h size sizes) in
    let few : tile_precincts (tile_rect (canvas_made w h) 0) shapes_made ≤ 18 = precincts_limited w h sizes in
    omega (arith, one, precincts_own w h size)

not_passed : (blocks packets : ℕ) → blocks ≤ most_blocks → packets ≤ 2 ^ 22 → option_or (passed 5 blocks (nat_lt (most_blocks) blocks)) (passed 6 packets (nat_lt (2 ^ 22) packets)) ≡ None
not_passed blocks packets few some = grind (arith, nat_tests)

pub totals_within : (w h size : ℕ) → AreSizes w h → totals_fault (stream_made w h size) ≡ None
unfolding totals_fault
totals_within w h size sizes = not_passed (block_total (stream_made w h size)) (packet_total (stream_made w h size)) (blocks_within w h size sizes) (packets_within w h size sizes)
