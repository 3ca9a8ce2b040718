-- The blocks of a tile, as the leaves of a precinct.
use Rattle.std.proofs.Common.{◌≡◌, ℕ, zero, suc, ◌+◌, ◌-◌, ◌*◌, ◌<◌, ◌≤◌, ◌^◌, List, [], ◌∷◌, length, map, sym, ap, ◌∙◌, subst, arith, All, Option, Some, None}
use Rattle.std.specs.Prelude.{slice_get}
use Rattle.std.specs.List.{AllByRecursion, range_with_len}
use Rattle.std.specs.Global.{Vec}
use Rattle.std.proofs.lemmas.List.{length-map}
use Rattle.std.proofs.lemmas.List.Elements.{recursion_from_All}
use Rattle.std.proofs.lemmas.List.FromFn.{length-map-range_with_len}
use Rattle.jx_base.specs.declared.pieces.Block.{Block}
use Rattle.jx_base.specs.Joined.{joined}
use Rattle.jx_base.specs.Pieces.{PieceValue}
use Rattle.jx_base.specs.Sound.{IsSound}
use Rattle.jx_geom.specs.Counts.{tile_blocks}
use Rattle.jx_geom.specs.Geometry.{Geometry, GeometryInRange, rect_of_tile}
use Rattle.jx_geom.specs.Precincts.{HasPrecinct, leaves, leaf_number}
use Rattle.jx_geom.proofs.LeafLemmas.{leaf_below, leaves_limited}
use Rattle.jx_packet_header.specs.declared.BandCells.{BandCells}
use Rattle.jx_packet_header.specs.LeavesFit.{LeavesInRange, header_at}
use Rattle.jx_packet_header.specs.Writable.{AllFew, all_passes}
use Rattle.jx_packet_header.specs.Written.{Leafed, Plan}
use Rattle.jx_codestream.specs.declared.Stream.{Stream}
use Rattle.jx_codestream.specs.Shapes.{layers_of, style_of}
use Rattle.jx_tile.specs.Cells.{precinct_bands}
use Rattle.jx_tier2_reader.specs.Planned.{leaf_from, leaf_part_of}
use Rattle.jx_tier2_reader.proofs.CellLemmas.{cells_count}
use Rattle.jx_tier2_writer.specs.Coded.{HasLayers}
use Rattle.jx_tier2_writer.specs.Own.{AreOwnBlocks, HasLeaves, IsSending, leaf_bytes, own_header, own_leaf, own_leaves}
use Rattle.jx_tier2_writer.specs.BlockParts.{AreBlockParts, row_at, row_bytes, rows_of}
use Rattle.jx_tier2_writer.specs.declared.block_parts.BlockPart.{BlockPart}
use Rattle.jx_tier2_reader.proofs.FitLemmas.{pieces_total}
use Rattle.jx_base.specs.Limits.{most_blocks}

-- ---- what holds of each block
abbrev IsSoundOf : Option Block → Type 0
IsSoundOf None = Unit {0}
IsSoundOf (Some b) = IsSound b

sound_get : (own : List Block) (i : ℕ) → AllByRecursion IsSound own → IsSoundOf (slice_get own i)
sound_get [] i all = tt
sound_get (b ∷ own) zero all = all.0
sound_get (b ∷ own) (suc i) all = sound_get own i all.1

layers_get : (n : ℕ) (own : List Block) (i : ℕ) → AllByRecursion (λ (b : Block). All (λ (q : PieceValue). q.layer < n) b.pieces) own → HasLayers n (slice_get own i)
layers_get n [] i all = tt
layers_get n (b ∷ own) zero all = all.0
layers_get n (b ∷ own) (suc i) all = layers_get n own i all.1

pub own_has : (s : Stream) (g : Geometry) (own : List Block) (n c r k : ℕ) → n ≡ layers_of s g.tile → GeometryInRange g → HasPrecinct g c r k → AreOwnBlocks s g own → HasLeaves g own n c r k
own_has s g own n c r k layers range has are =
    let all : length own ≡ tile_blocks (rect_of_tile g) g.shapes = are.all in
    let most : tile_blocks (rect_of_tile g) g.shapes ≤ most_blocks = range.limits.blocks in
    record {
      precinct = has;
      few = leaves_limited g c r k range has;
      there = λ j lt. (let below : leaf_number g c r k j < tile_blocks (rect_of_tile g) g.shapes = leaf_below g c r k j range has lt in subst (λ (m : ℕ). leaf_number g c r k j < m) (sym all) below);
      layers = λ j lt. subst (λ (m : ℕ). HasLayers m (slice_get own (leaf_number g c r k j))) (sym layers)
          (layers_get (layers_of s g.tile) own (leaf_number g c r k j) (recursion_from_All (λ (b : Block). All (λ (q : PieceValue). q.layer < layers_of s g.tile) b.pieces) own are.layers));
      small = subst (λ (m : ℕ). m ≤ most_blocks) (sym all) most;
    }

-- ---- few passes

few_passes : (j : ℕ) (o : Option Block) → IsSoundOf o → all_passes (leaf_from j o).parts < 2 ^ 16
few_passes j None sound = omega arith
few_passes j (Some b) sound =
    let sum : 0 + all_passes (map (leaf_part_of j) b.pieces) ≡ b.passes = pieces_total b.style.bits 0 0 b.passes j b.pieces sound.pieces in
    let most : b.passes ≤ 3 * (b.planes - b.zero) - 2 = sound.few in
    let planes : b.planes ≤ 74 = sound.planes in
    omega arith

few_range : (g : Geometry) (own : List Block) (c r k a n : ℕ) → AllByRecursion IsSound own → AllFew (map (own_leaf g own c r k) (range_with_len a n))
few_range g own c r k a zero all = tt
few_range g own c r k a (suc n) all =
    (few_passes a (slice_get own (leaf_number g c r k a)) (sound_get own (leaf_number g c r k a) all), few_range g own c r k (a + 1) n all)

pub own_in_range : (s : Stream) (g : Geometry) (own : List Block) (c r k : ℕ) → AreOwnBlocks s g own → LeavesInRange (precinct_bands s g c r k) (own_leaves g own c r k)
unfolding own_leaves
own_in_range s g own c r k are = record {
  all = length-map-range_with_len (own_leaf g own c r k) 0 (leaves g c r k) ∙ sym (cells_count s g c r k);
  few = few_range g own c r k 0 (leaves g c r k) (recursion_from_All IsSound own are.sound);
}

-- ---- what is sent of a precinct
pub headers_are : (s : Stream) (g : Geometry) (own : List Block) (c r k n style : ℕ) (bands : List BandCells) (lvs : List Leafed) (out : Plan) (hs : List (List ℕ))
    → n ≡ layers_of s g.tile → style ≡ style_of s g.tile c → bands ≡ precinct_bands s g c r k → lvs ≡ own_leaves g own c r k
    → out ≡ record { style = style; layers = n; next = 0; bands = bands; leaves = lvs } → hs ≡ map (header_at n out.style out.bands out.leaves) (range_with_len 0 n)
    → hs ≡ map (own_header s g own c r k) (range_with_len 0 (layers_of s g.tile))
headers_are s g own c r k n style bands lvs out hs en es eb el eo is =
    is
    ∙ ap (λ (p : Plan). map (header_at n p.style p.bands p.leaves) (range_with_len 0 n)) eo
    ∙ ap (λ (m : ℕ). map (header_at m style bands lvs) (range_with_len 0 m)) en
    ∙ ap (λ (m : ℕ). map (header_at (layers_of s g.tile) m bands lvs) (range_with_len 0 (layers_of s g.tile))) es
    ∙ ap (λ (m : List BandCells). map (header_at (layers_of s g.tile) (style_of s g.tile c) m lvs) (range_with_len 0 (layers_of s g.tile))) eb
    ∙ ap (λ (m : List Leafed). map (header_at (layers_of s g.tile) (style_of s g.tile c) (precinct_bands s g c r k) m) (range_with_len 0 (layers_of s g.tile))) el

pub sent_are : (s : Stream) (g : Geometry) (own : List Block) (datas : List (List ℕ)) (c r k n : ℕ) (hs : List (List ℕ)) (vecs : List (Vec BlockPart)) (rows : List (List BlockPart))
    → n ≡ layers_of s g.tile → hs ≡ map (own_header s g own c r k) (range_with_len 0 (layers_of s g.tile)) → rows ≡ rows_of vecs → length vecs ≡ n
    → ((l : ℕ) → row_bytes datas (row_at (rows_of vecs) l) ≡ joined (leaf_bytes g own c r k l) 0 (leaves g c r k)) → ((l : ℕ) → AreBlockParts datas (row_at (rows_of vecs) l))
    → IsSending s g own datas c r k (record { headers = hs; sent = rows })
sent_are s g own datas c r k n hs vecs rows en headers is long bytes sent = record {
  headers = headers;
  long = ap (λ (xs : List (List BlockPart)). length xs) is ∙ length-map vecs (λ (v : Vec BlockPart). v.items) ∙ long ∙ en;
  bytes = λ l lt. ap (λ (xs : List (List BlockPart)). row_bytes datas (row_at xs l)) is ∙ bytes l;
  sent = λ l. subst (λ (xs : List (List BlockPart)). AreBlockParts datas (row_at xs l)) (sym is) (sent l);
}
