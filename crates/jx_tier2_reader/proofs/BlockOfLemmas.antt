-- What holds of each block that is gathered.
use Rattle.std.proofs.Common.{map, ◌≡◌, ℕ, ◌+◌, ◌<◌, ◌≤◌, List, [], ◌∷◌, length, refl, sym, ap, ◌∙◌, subst, arith, Some, None, Option, All, append-nil}
use Rattle.std.specs.Prelude.{slice_get}
use Rattle.std.specs.List.{AllByRecursion, Contains}
use Rattle.std.proofs.lemmas.List.Elements.{All-from_recursion}
use Rattle.jx_base.specs.declared.names.BlockName.{BlockName}
use Rattle.jx_base.specs.declared.pieces.Block.{Block}
use Rattle.jx_base.specs.Pieces.{PieceValue, passes_at, passes_below}
use Rattle.jx_base.specs.Joined.{joined, sum_below}
use Rattle.jx_base.proofs.Joined.{joined_length, joined_at}
use Rattle.jx_geom.specs.Geometry.{Geometry, HasBlock, rect_of_tile, shape_of}
use Rattle.jx_geom.specs.Counts.{tile_blocks}
use Rattle.jx_geom.specs.Rects.{tile_rect, block_rect}
use Rattle.jx_geom.specs.Numbering.{block_number, blocks_below, number_in_tile}
use Rattle.jx_geom.proofs.NumberLemmas.{number_in_tile_below}
use Rattle.jx_packet_header.specs.Packet.{State}
use Rattle.jx_packet_header.specs.declared.known.Known.{Known}
use Rattle.jx_packet_header.specs.Parts.{cut}
use Rattle.jx_progression.specs.declared.names.PacketName.{PacketName}
use Rattle.jx_progression.proofs.OrderLemmas.{order_to}
use Rattle.jx_codestream.specs.declared.Stream.{Stream}
use Rattle.jx_codestream.specs.First.{canvas_of, tile_number}
use Rattle.jx_codestream.specs.Params.{planes_at}
use Rattle.jx_codestream.specs.Read.{IsRead}
use Rattle.jx_codestream.specs.Shapes.{geometry, shapes_of, layers_of, style_of, tile_at}
use Rattle.jx_tile.specs.Totals.{totals_fault}
use Rattle.jx_tile.specs.Cells.{precinct_bands}
use Rattle.jx_tier2_reader.specs.Fresh.{fresh_precinct}
use Rattle.jx_geom.specs.Precincts.{leaf_number}
use Rattle.jx_tier2_reader.specs.Cuts.{Cut, Left, names_of}
use Rattle.jx_tier2_reader.specs.Blocks.{FoundPiece, founds_of, own_founds, pieces_in, zero_from, block_of}
use Rattle.jx_tile.specs.Covered.{IsListOf}
use Rattle.jx_tier2_reader.specs.Gathered.{IsCutUp, AreTileBlocks, IsGathered, start}
use Rattle.jx_tier2_reader.specs.BlockOf.{pieces_at, AreCutAsRead, IsBlockOf, IsFoundOf, AreBlocksOf}
use Rattle.jx_tier2_reader.proofs.NumberLemmas.{precinct_there}
use Rattle.jx_tier2_reader.proofs.BlockLemmas.{blocks_long, block_there}
use Rattle.jx_tier2_reader.proofs.PartLemmas.{known_in}
use Rattle.jx_tile.proofs.TotalLemmas.{blocks_are}
use Rattle.jx_tier2_reader.proofs.TrackLemmas.{start_follow, FromLeaf}
use Rattle.jx_tier2_reader.proofs.LayersFew.{in_layer, Walk, layer_few, below_of, below_own}
use Rattle.jx_tier2_reader.proofs.CutRuns.{cut_over}
use Rattle.jx_tier2_reader.proofs.LeafLemmas.{LeafOf, block_leaf}
use Rattle.jx_tier2_reader.proofs.SoundLemmas.{fresh_unknown, IsBegun, OfNumber, own_have, begun_leaves, read_begun}
use Rattle.jx_geom.proofs.SameLemmas.{same_sum as sum_same}
use Rattle.jx_base.specs.Limits.{most_bytes}

-- ---- one block
none_mapped : (founds : List FoundPiece) → pieces_in founds ≡ [] → founds ≡ []
none_mapped [] e = refl
none_mapped (f ∷ founds) e = absurd (cc)

few_own : (b : List ℕ) (s : Stream) (t : ℕ) (cuts : List Cut) (left : Left) (number layer : ℕ) → IsBegun b s t cuts left → in_layer layer number (founds_of (geometry s t) cuts) ≤ 164
few_own b s t cuts left number layer h =
    by (own_founds number (founds_of g cuts)) refl (own_have g number (founds_of g cuts) (begun_leaves b s t cuts left h))
  where
    g : Geometry
    g = geometry s t

    by : (own : List FoundPiece) → own_founds number (founds_of (geometry s t) cuts) ≡ own → AllByRecursion (OfNumber (geometry s t) number) own → in_layer layer number (founds_of (geometry s t) cuts) ≤ 164
    by [] e all = (let none : in_layer layer number (founds_of (geometry s t) cuts) ≡ 0 = ap (λ (l : List FoundPiece). passes_at layer (pieces_in l)) e in omega arith)
    by (f ∷ own) e all =
        let leaf : FromLeaf (geometry s t) f = all.0.leaf in
        let same : leaf_number (geometry s t) leaf.comp leaf.res leaf.precinct leaf.block ≡ number = leaf.number ∙ all.0.number in
        subst (λ (n : ℕ). in_layer layer n (founds_of (geometry s t) cuts) ≤ 164) same
        (layer_few b s (geometry s t) layer leaf.comp leaf.res leaf.precinct leaf.block 0 (start b s t) cuts left h.limits leaf.there leaf.inside
        (record { there = h.there; rise = h.rise; follow = start_follow s (geometry s t); are = h.are }))

cut_own : (b : List ℕ) (s : Stream) (t : ℕ) (cuts : List Cut) (left : Left) (n : BlockName) → IsBegun b s t cuts left → HasBlock (geometry s t) n
    → AreCutAsRead (style_of s t n.comp) (pieces_in (own_founds (number_in_tile (geometry s t) n) (founds_of (geometry s t) cuts)))
cut_own b s t cuts left n h is layer =
    let g : Geometry = geometry s t in
    let leaf : LeafOf g n = block_leaf g n h.limits is in
    let number : ℕ = leaf_number g n.comp n.res leaf.precinct leaf.block in
    let fresh : State = fresh_precinct s g n.comp n.res leaf.precinct in
    let own : List PieceValue = pieces_in (own_founds number (founds_of g cuts)) in
    let walk : Walk b s g 0 (start b s t) cuts left = record { there = h.there; rise = h.rise; follow = start_follow s g; are = h.are } in
    let over = cut_over b s g n.comp n.res leaf.precinct leaf.block 0 cuts (start b s t) left fresh h.limits leaf.there leaf.inside walk (precinct_there s g n.comp n.res leaf.precinct leaf.there) layer in
    let none : (known_in fresh.bands leaf.block).passes ≡ 0 = ap (λ (k : Known). k.passes) (fresh_unknown (precinct_bands s g n.comp n.res leaf.precinct) leaf.block) in
    let first : (known_in fresh.bands leaf.block).passes + passes_below layer own ≡ passes_below layer own = omega arith in
    subst (λ (i : ℕ). map (λ (q : PieceValue). q.passes) (pieces_at layer (pieces_in (own_founds i (founds_of g cuts)))) ≡ cut (style_of s t n.comp) (passes_below layer (pieces_in (own_founds i (founds_of g cuts)))) (passes_at layer (pieces_in (own_founds i (founds_of g cuts))))) leaf.number
    (over ∙ ap (λ (i : ℕ). cut (style_of s t n.comp) i (passes_at layer own)) first)

block_is : (b : List ℕ) (s : Stream) (t : ℕ) (cuts : List Cut) (left : Left) (n : BlockName) → IsBegun b s t cuts left → ((p : PacketName) → Contains (names_of cuts) p → p.layer < layers_of s t)
    → HasBlock (geometry s t) n → IsBlockOf s n (block_of s (geometry s t) (founds_of (geometry s t) cuts) n)
block_is b s t cuts left n h low is =
    let e : n.tile ≡ t = is.tile in
    let g : Geometry = geometry s t in
    let number : ℕ = number_in_tile g n in
    let founds : List FoundPiece = founds_of g cuts in
    let T : ℕ → Type 0 = λ x. All (λ (p : PieceValue). p.layer < layers_of s x) (pieces_in (own_founds number founds)) in
    let block : Block = block_of s g founds n in
    record {
      name = refl;
      rect = ap (λ (x : ℕ). block_rect (rect_of_tile (geometry s x)) (shape_of (geometry s x) n.comp) n.res n.band n.index) (sym e);
      planes = ap (λ (x : ℕ). planes_at s x n.comp n.res n.band) (sym e);
      style = ap (λ (x : ℕ). style_of s x n.comp) (sym e);
      empty = λ none. ap (zero_from (planes_at s t n.comp n.res n.band)) (none_mapped (own_founds number founds) none) ∙ refl;
      layers = subst T (sym e) (All-from_recursion (λ (p : PieceValue). p.layer < layers_of s t) (pieces_in (own_founds number founds)) (below_own (layers_of s t) number founds (below_of g (layers_of s t) cuts low)));
      few = λ layer. few_own b s t cuts left number layer h;
      cuts = cut_own b s t cuts left n h is;
    }

-- ---- all blocks

abbrev pub count_of : Stream → ℕ → ℕ
count_of s t = tile_blocks (tile_rect (canvas_of s.siz) t) (shapes_of s t)

tile_long : (b : List ℕ) (s : Stream) (t : ℕ) (blocks : List Block) → AreTileBlocks b s t blocks → length blocks ≡ count_of s t
tile_long b s t blocks are = ap (λ (l : List Block). length l) are.2 ∙ blocks_long s (geometry s t) (founds_of (geometry s t) are.0)

tile_found : (b : List ℕ) (s : Stream) (t : ℕ) (blocks : List Block) (n : BlockName) → IsRead b s → length b ≤ most_bytes → totals_fault s ≡ None → t < tile_number s.siz → AreTileBlocks b s t blocks
    → HasBlock (geometry s t) n → IsFoundOf s n (slice_get blocks (number_in_tile (geometry s t) n))
tile_found b s t blocks n read few none inside are has =
    let g : Geometry = geometry s t in
    let cuts : List Cut = are.0 in
    let up : IsCutUp b s t cuts = are.1 in
    let entries = (tile_at s t).progressions in
    let left : IsBegun b s t cuts up.end =
    read_begun b s t cuts [] up.end read few inside none (subst (λ (l : List PacketName). IsListOf s t l) (sym (append-nil (names_of cuts))) up.order) up.are in
    let low : (p : PacketName) → Contains (names_of cuts) p → p.layer < layers_of s t = λ p c. (order_to g (layers_of s t) entries (length entries) (names_of cuts) up.order p c).packet.layer in
    let is : IsBlockOf s n (block_of s g (founds_of g cuts) n) = block_is b s t cuts up.end n left low has in
    let found : slice_get blocks (number_in_tile g n) ≡ Some (block_of s g (founds_of g cuts) n) =
    ap (λ (l : List Block). slice_get l (number_in_tile g n)) are.2 ∙ block_there s g (founds_of g cuts) n has in
    subst (λ (o : Option Block). IsFoundOf s n o) (sym found) is

pub blocks_of_stream : (b : List ℕ) (s : Stream) (blocks : List Block) → IsRead b s → length b ≤ most_bytes → totals_fault s ≡ None → IsGathered b s blocks → AreBlocksOf s blocks
unfolding block_number
blocks_of_stream b s blocks read few none given =
    let count : ℕ → ℕ = λ t. length (given.tiles t) in
    let long : (t : ℕ) → t < tile_number s.siz → count t ≡ count_of s t = λ t inside. tile_long b s t (given.tiles t) (given.are t inside) in
    record {
      all = ap (λ (l : List Block). length l) given.blocks_are ∙ joined_length given.tiles count (tile_number s.siz) (λ i. refl)
          ∙ sum_same count (count_of s) (tile_number s.siz) long ∙ sym (blocks_are s);
      each = λ n is.
          (let t : ℕ = n.tile in
          let j : ℕ = number_in_tile (geometry s t) n in
          let below : j < count_of s t = number_in_tile_below (geometry s t) n is.1 in
          let size : count t ≡ count_of s t = long t is.0 in
          let before : sum_below count t ≡ blocks_below (canvas_of s.siz) (shapes_of s) t =
          sum_same count (count_of s) t (λ i lt. long i (let inside = is.0 in omega arith)) in
          let place : slice_get blocks (blocks_below (canvas_of s.siz) (shapes_of s) t + j) ≡ slice_get (given.tiles t) j =
          ap (λ (l : List Block). slice_get l (blocks_below (canvas_of s.siz) (shapes_of s) t + j)) given.blocks_are
          ∙ ap (λ (m : ℕ). slice_get (joined given.tiles 0 (tile_number s.siz)) (m + j)) (sym before)
          ∙ joined_at given.tiles count (tile_number s.siz) t j (λ i. refl) is.0 (omega arith) in
          subst (λ (o : Option Block). IsFoundOf s n o) (sym place) (tile_found b s t (given.tiles t) n read few none is.0 (given.are t is.0) is.1));
    }
