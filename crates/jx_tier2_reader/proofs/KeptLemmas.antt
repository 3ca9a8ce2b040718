-- A codestream whose packets carry the pieces of given blocks is gathered with just these blocks.
use Rattle.std.proofs.Common.{◌≡◌, ℕ, ◌+◌, ◌<◌, ◌≤◌, List, [], ◌∷◌, length, map, refl, sym, ap, ◌∙◌, subst, arith, Some, None, Option, All}
use Rattle.std.specs.Prelude.{slice_get}
use Rattle.std.specs.List.{AllByRecursion}
use Rattle.std.proofs.lemmas.List.Elements.{recursion_from_All}
use Rattle.jx_base.specs.declared.names.BlockName.{BlockName}
use Rattle.jx_base.specs.declared.names.Rect.{Rect}
use Rattle.jx_base.specs.declared.pieces.Block.{Block}
use Rattle.jx_base.specs.declared.style.Style.{Style}
use Rattle.jx_base.specs.Pieces.{PieceValue, ArePieces}
use Rattle.jx_base.specs.Sound.{IsSound}
use Rattle.jx_base.proofs.Joined.{joined_length, joined_at}
use Rattle.jx_base.proofs.Lists.{same_gets}
use Rattle.jx_geom.specs.Geometry.{Geometry, HasBlock}
use Rattle.jx_geom.specs.Numbering.{IsBlock, block_number, blocks_below, number_in_tile}
use Rattle.jx_geom.proofs.NumberLemmas.{number_in_tile_below, block_number_taken}
use Rattle.jx_progression.specs.declared.names.PacketName.{PacketName}
use Rattle.jx_progression.specs.Steps.{name_of}
use Rattle.jx_codestream.specs.declared.Stream.{Stream}
use Rattle.jx_codestream.specs.First.{canvas_of, tile_number}
use Rattle.jx_codestream.specs.Params.{planes_at}
use Rattle.jx_codestream.specs.Read.{IsRead}
use Rattle.jx_codestream.specs.Shapes.{geometry, shapes_of, layers_of, style_of}
use Rattle.jx_tile.specs.Totals.{totals_fault, block_total}
use Rattle.jx_codestream.specs.InRange.{StreamInRange}
use Rattle.jx_geom.specs.Precincts.{leaves}
use Rattle.jx_geom.specs.Precincts.{HasPrecinct, leaf_number}
use Rattle.jx_tier2_reader.specs.Blocks.{FoundPiece, founds_of, own_founds, pieces_in, passes_in, zero_from, block_with, block_of}
use Rattle.jx_tile.specs.Covered.{IsWhole}
use Rattle.jx_tier2_reader.specs.Gathered.{IsGathered}
use Rattle.jx_tier2_reader.specs.BlockOf.{pieces_at, IsBlockOf, IsFoundOf, AreBlocksOf}
use Rattle.jx_tier2_reader.specs.Written.{Packets, IsLaid, cuts_at, laid_in, laid_blocks, packets_in}
use Rattle.jx_tier2_reader.specs.Carries.{pieces_of, zero_of, AllCarry}
use Rattle.jx_tier2_reader.proofs.BlockLemmas.{blocks_long, block_there}
use Rattle.jx_tier2_reader.proofs.BlockOfLemmas.{count_of}
use Rattle.jx_tier2_reader.proofs.CarryLemmas.{found_at, carried_founds, AreRising, over_layers, same_from}
use Rattle.jx_tier2_reader.proofs.GrowLemmas.{pieces_sum}
use Rattle.jx_tier2_reader.proofs.LaidBlocks.{Joins, layer_founds, own_joined_over, packet_named}
use Rattle.jx_tier2_reader.proofs.LaidTiles.{laid_gathered}
use Rattle.jx_tier2_reader.proofs.LeafLemmas.{LeafOf, block_leaf}
use Rattle.jx_codestream.proofs.RangeLemmas.{read_in_range}
use Rattle.jx_tier2_reader.proofs.ListLemmas.{few_components}
use Rattle.jx_tile.proofs.TotalLemmas.{blocks_are, geometry_fits}
use Rattle.jx_tier2_reader.proofs.TurnLemmas.{listed}
use Rattle.jx_tier2_reader.proofs.PlannedLemmas.{sound_at}

-- ---- the block of a name among those that the packets tell of
laid_at : (s : Stream) (packets : ℕ → Packets) (groups : ℕ → List (List PacketName)) (n : BlockName) → IsBlock (canvas_of s.siz) (shapes_of s) n
    → slice_get (laid_blocks s packets groups) (block_number (canvas_of s.siz) (shapes_of s) n)
    ≡ Some (block_of s (geometry s n.tile) (founds_of (geometry s n.tile) (cuts_at (packets n.tile) (packets_in (groups n.tile)))) n)
unfolding laid_blocks block_number
laid_at s packets groups n is =
    let g : Geometry = geometry s n.tile in
    joined_at (laid_in s packets groups) (count_of s) (tile_number s.siz) n.tile (number_in_tile g n)
    (λ t. blocks_long s (geometry s t) (founds_of (geometry s t) (cuts_at (packets t) (packets_in (groups t))))) is.0 (number_in_tile_below g n is.1)
    ∙ block_there s g (founds_of g (cuts_at (packets n.tile) (packets_in (groups n.tile)))) n is.1

laid_long : (s : Stream) (packets : ℕ → Packets) (groups : ℕ → List (List PacketName)) → length (laid_blocks s packets groups) ≡ block_total s
unfolding laid_blocks
laid_long s packets groups =
    joined_length (laid_in s packets groups) (count_of s) (tile_number s.siz) (λ t. blocks_long s (geometry s t) (founds_of (geometry s t) (cuts_at (packets t) (packets_in (groups t))))) ∙ sym (blocks_are s)

-- ---- its pieces
rising : (style layer first passes layers : ℕ) (qs : List PieceValue) → ArePieces style layer first passes qs → AllByRecursion (λ (q : PieceValue). q.layer < layers) qs → AreRising layer layers qs
rising style layer first passes layers [] a low = tt
rising style layer first passes layers (q ∷ qs) a low = (a.0.layers, low.0, rising style q.layer (first + q.passes) passes layers qs a.1 low.1)

-- a tile's packets carry the pieces of these blocks
record Kept (s : Stream) (t : ℕ) (blocks : List Block) (ps : Packets) (list : List PacketName) : Type 0 where
  pub joins : Joins s t ps list
  pub carry : AllCarry s t blocks ps

own_kept : (s : Stream) (t : ℕ) (blocks : List Block) (ps : Packets) (list : List PacketName) (c r k j : ℕ) (d : Block) → Kept s t blocks ps list → HasPrecinct (geometry s t) c r k
    → j < leaves (geometry s t) c r k → slice_get blocks (blocks_below (canvas_of s.siz) (shapes_of s) t + leaf_number (geometry s t) c r k j) ≡ Some d → AreRising 0 (layers_of s t) d.pieces
    → own_founds (leaf_number (geometry s t) c r k j) (founds_of (geometry s t) (cuts_at ps list)) ≡ map (found_at (leaf_number (geometry s t) c r k j) d.zero) d.pieces
own_kept s t blocks ps list c r k j d h has lt found rise =
    let g : Geometry = geometry s t in
    let number : ℕ = leaf_number g c r k j in
    let layers : ℕ = layers_of s t in
    let told : (l : ℕ) → 0 ≤ l → l < layers → layer_founds g ps c r k j l ≡ map (found_at number d.zero) (pieces_at l d.pieces) = λ l from below.
    (let p : PacketName = name_of l r c k in
    carried_founds s t blocks ps p j h.joins.range has lt (h.carry p (packet_named s t c r k l h.joins.few has below))
    ∙ ap (λ (o : Option Block). map (found_at number (zero_of o)) (pieces_at l (pieces_of o))) found) in
    own_joined_over s t ps list c r k j h.joins has lt
    ∙ same_from (layer_founds g ps c r k j) (λ l. map (found_at number d.zero) (pieces_at l d.pieces)) layers 0 layers (omega arith) told
    ∙ over_layers (found_at number d.zero) 0 layers d.pieces (omega arith) rise

-- ---- the block
pieces_back : (n z : ℕ) (qs : List PieceValue) → pieces_in (map (found_at n z) qs) ≡ qs
pieces_back n z [] = refl
pieces_back n z (q ∷ qs) = ap (λ (xs : List PieceValue). q ∷ xs) (pieces_back n z qs)

zero_back : (planes n z : ℕ) (qs : List PieceValue) → (qs ≡ [] → z ≡ planes) → zero_from planes (map (found_at n z) qs) ≡ z
zero_back planes n z [] e = sym (e refl)
zero_back planes n z (q ∷ qs) e = refl

made_of : BlockName → Rect → ℕ → ℕ → ℕ → Style → List PieceValue → Block
made_of n rect planes z passes style pieces = record { name = n; rect = rect; planes = planes; zero = z; passes = passes; style = style; pieces = pieces }

same_block : (x y : Block) → x.name ≡ y.name → x.rect ≡ y.rect → x.planes ≡ y.planes → x.zero ≡ y.zero → x.passes ≡ y.passes → x.style ≡ y.style → x.pieces ≡ y.pieces → x ≡ y
unfolding made_of
same_block x y en er ep ez es et ec =
    let e : made_of x.name x.rect x.planes x.zero x.passes x.style x.pieces ≡ made_of y.name y.rect y.planes y.zero y.passes y.style y.pieces = cc in
    e

same_style : (x : Style) (bits : ℕ) → x.bits ≡ bits → x ≡ record { bits = bits }
same_style x bits e = ap (λ (n : ℕ). let y : Style = record { bits = n } in y) e

block_kept : (s : Stream) (n : BlockName) (number : ℕ) (d : Block) → IsBlockOf s n d → IsSound d → block_with s (geometry s n.tile) n (map (found_at number d.zero) d.pieces) ≡ d
block_kept s n number d is sound =
    let own : List FoundPiece = map (found_at number d.zero) d.pieces in
    let back : pieces_in own ≡ d.pieces = pieces_back number d.zero d.pieces in
    let all : ArePieces d.style.bits 0 0 d.passes (pieces_in own) = subst (λ (l : List PieceValue). ArePieces d.style.bits 0 0 d.passes l) (sym back) sound.pieces in
    let sum : 0 + passes_in own ≡ d.passes = pieces_sum d.style.bits 0 0 d.passes own all in
    let passes : passes_in own ≡ d.passes = omega arith in
    same_block (block_with s (geometry s n.tile) n own) d (sym is.name) (sym is.rect) (sym is.planes)
    (zero_back (planes_at s n.tile n.comp n.res n.band) number d.zero d.pieces (λ none. is.empty none ∙ is.planes)) passes (sym (same_style d.style (style_of s n.tile n.comp) is.style)) back

-- ---- all blocks
found_kept : (s : Stream) (n : BlockName) (blocks : List Block) (packets : Packets) (list : List PacketName) (o : Option Block) → Kept s n.tile blocks packets list → HasBlock (geometry s n.tile) n
    → slice_get blocks (blocks_below (canvas_of s.siz) (shapes_of s) n.tile + number_in_tile (geometry s n.tile) n) ≡ o → IsFoundOf s n o → ((d : Block) → o ≡ Some d → IsSound d)
    → Some (block_of s (geometry s n.tile) (founds_of (geometry s n.tile) (cuts_at packets list)) n) ≡ o
found_kept s n blocks packets list None h has found is sound = absurd is
found_kept s n blocks packets list (Some d) h has found is sound =
    let t : ℕ = n.tile in
    let g : Geometry = geometry s t in
    let leaf : LeafOf g n = block_leaf g n h.joins.range has in
    let number : ℕ = leaf_number g n.comp n.res leaf.precinct leaf.block in
    let base : ℕ = blocks_below (canvas_of s.siz) (shapes_of s) t in
    let here : slice_get blocks (base + number) ≡ Some d = ap (λ (i : ℕ). slice_get blocks (base + i)) leaf.number ∙ found in
    let good : IsSound d = sound d refl in
    let rise : AreRising 0 (layers_of s t) d.pieces =
    rising d.style.bits 0 0 d.passes (layers_of s t) d.pieces good.pieces (recursion_from_All (λ (q : PieceValue). q.layer < layers_of s t) d.pieces is.layers) in
    let own : own_founds number (founds_of g (cuts_at packets list)) ≡ map (found_at number d.zero) d.pieces =
    own_kept s t blocks packets list n.comp n.res leaf.precinct leaf.block d h leaf.there leaf.inside here rise in
    ap (λ (i : ℕ). Some (block_with s g n (own_founds i (founds_of g (cuts_at packets list))))) (sym leaf.number)
    ∙ ap (λ (fs : List FoundPiece). Some (block_with s g n fs)) own
    ∙ ap (λ (x : Block). Some x) (block_kept s n number d is good)

blocks_kept : (s : Stream) (blocks : List Block) (packets : ℕ → Packets) (groups : ℕ → List (List PacketName)) → AreBlocksOf s blocks → All IsSound blocks
    → ((t : ℕ) → t < tile_number s.siz → Kept s t blocks (packets t) (packets_in (groups t))) → laid_blocks s packets groups ≡ blocks
unfolding block_number
blocks_kept s blocks packets groups are sound kept =
    let laid : List Block = laid_blocks s packets groups in
    let long : length laid ≡ length blocks = laid_long s packets groups ∙ sym are.all in
    same_gets laid blocks long (λ i lt.
    (let all : block_total s ≡ blocks_below (canvas_of s.siz) (shapes_of s) (tile_number s.siz) = blocks_are s in
    let size : length laid ≡ block_total s = laid_long s packets groups in
    let taken = block_number_taken (canvas_of s.siz) (shapes_of s) i (omega (arith, lt, size, all)) in
    let n : BlockName = taken.0 in
    let is : IsBlock (canvas_of s.siz) (shapes_of s) n = taken.1.0 in
    let number : ℕ = block_number (canvas_of s.siz) (shapes_of s) n in
    let same : number ≡ i = taken.1.1 in
    let told : slice_get laid number ≡ Some (block_of s (geometry s n.tile) (founds_of (geometry s n.tile) (cuts_at (packets n.tile) (packets_in (groups n.tile)))) n) = laid_at s packets groups n is in
    let given : Some (block_of s (geometry s n.tile) (founds_of (geometry s n.tile) (cuts_at (packets n.tile) (packets_in (groups n.tile)))) n) ≡ slice_get blocks number =
    found_kept s n blocks (packets n.tile) (packets_in (groups n.tile)) (slice_get blocks number) (kept n.tile is.0) is.1 refl (are.each n is) (λ d found. sound_at blocks number d sound found) in
    subst (λ (m : ℕ). slice_get laid m ≡ slice_get blocks m) same (told ∙ given)))

pub carried_gathered : (b : List ℕ) (s : Stream) (blocks : List Block) (packets : ℕ → Packets) (groups : ℕ → List (List PacketName)) → IsRead b s → totals_fault s ≡ None
    → AreBlocksOf s blocks → All IsSound blocks
    → ((t : ℕ) → t < tile_number s.siz → IsWhole s t) → ((t : ℕ) → t < tile_number s.siz → IsLaid b s t (packets t) (groups t)) → ((t : ℕ) → t < tile_number s.siz → AllCarry s t blocks (packets t))
    → IsGathered b s blocks
carried_gathered b s blocks packets groups read none are sound whole laid carry =
    let range : StreamInRange s = read_in_range b s read in
    let kept : (t : ℕ) → t < tile_number s.siz → Kept s t blocks (packets t) (packets_in (groups t)) = λ t inside. (record {
      joins = record {
        range = geometry_fits s t range none inside;
        few = few_components s (geometry s t) range refl;
        listed = listed s t (packets_in (groups t)) (laid t inside).order (whole t inside);
        written = (laid t inside).written;
      };
      carry = carry t inside;
    }) in
    subst (IsGathered b s) (blocks_kept s blocks packets groups are sound kept) (laid_gathered b s packets groups read none whole laid)
