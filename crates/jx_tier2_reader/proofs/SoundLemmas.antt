-- Each block of a tile that is cut into packets is sound.
use Rattle.std.proofs.Common.{◌≡◌, ℕ, ◌+◌, ◌-◌, ◌*◌, ◌^◌, ◌<◌, ◌≤◌, ◌==◌, nat_lt, Bool, true, false, List, [], ◌∷◌, ◌++◌, length, filter, replicate, refl, sym, ap, ◌∙◌, subst, cond, arith, None, inl, inr, ◌⊎◌, All, get_or, append-nil, if◌then◌else◌}
use Rattle.std.specs.List.{AllByRecursion, AllPairs, Contains}
use Rattle.std.proofs.lemmas.Bool.{cases_lt, cases_eq, eqb-true, eq-eqb, ne_eqb, lt-ltb, le-ltb, cond-true, cond-false}
use Rattle.std.proofs.lemmas.List.{length-replicate}
use Rattle.std.proofs.lemmas.List.Elements.{All-from_recursion, All-weaker, Contains-append_left}
use Rattle.std.proofs.lemmas.Option.{get_or_from_slice_get}
use Rattle.jx_base.specs.declared.names.Band.{Band}
use Rattle.jx_base.specs.declared.names.BlockName.{BlockName}
use Rattle.jx_base.specs.declared.pieces.Block.{Block}
use Rattle.jx_base.specs.Places.{length_of, size_of}
use Rattle.jx_base.specs.Pieces.{ArePieces, bytes_in}
use Rattle.jx_base.specs.Sound.{HasBlockSize, IsSound}
use Rattle.jx_geom.specs.Rects.{block_rect}
use Rattle.jx_geom.specs.Sizes.{BlockFits}
use Rattle.jx_geom.specs.Geometry.{Geometry, GeometryInRange, HasBlock, shape_of, rect_of_tile}
use Rattle.jx_geom.specs.Numbering.{number_in_tile}
use Rattle.jx_geom.proofs.SizeLemmas.{block_fits}
use Rattle.jx_packet_header.specs.declared.BandCells.{BandCells}
use Rattle.jx_packet_header.specs.declared.known.Known.{Known}
use Rattle.jx_packet_header.specs.Packet.{Cells, unknown_block}
use Rattle.jx_packet_header.specs.Precinct.{fresh_cells, fresh_bands, all_blocks}
use Rattle.jx_packet_header.proofs.FreshLemmas.{unknown_at, block_left, block_right}
use Rattle.jx_progression.specs.declared.names.PacketName.{PacketName}
use Rattle.jx_progression.specs.Packets.{IsPacketName, SamePrecinct}
use Rattle.jx_progression.proofs.OrderLemmas.{order_to}
use Rattle.jx_progression.proofs.RiseLemmas.{order_rises}
use Rattle.jx_codestream.specs.declared.Stream.{Stream}
use Rattle.jx_codestream.specs.First.{tile_number}
use Rattle.jx_codestream.specs.Params.{planes_at}
use Rattle.jx_codestream.specs.Shapes.{geometry, layers_of, style_of, tile_at}
use Rattle.jx_codestream.specs.Read.{IsRead}
use Rattle.jx_tile.specs.Totals.{totals_fault}
use Rattle.jx_codestream.specs.InRange.{StreamInRange}
use Rattle.jx_tier2_reader.specs.InRange.{DataInRange}
use Rattle.jx_geom.specs.Precincts.{leaves, leaves_in, HasPrecinct, cells_at, precinct_number, name_from, leaf_name, leaf_number}
use Rattle.jx_tier2_reader.specs.Cuts.{Cut, Left, AreCuts, number_of, names_of}
use Rattle.jx_tier2_reader.specs.Blocks.{FoundPiece, founds_of, own_founds, pieces_in, passes_in, zero_from, block_with, block_of, blocks_of_tile}
use Rattle.jx_tile.specs.Covered.{IsListOf}
use Rattle.jx_tier2_reader.specs.Gathered.{IsCutUp, IsGathered, start}
use Rattle.jx_tier2_reader.specs.Put.{put_all}
use Rattle.jx_tier2_reader.proofs.NumberLemmas.{precinct_there}
use Rattle.jx_geom.proofs.PrecinctLemmas.{precinct_once}
use Rattle.jx_tier2_reader.proofs.CellLemmas.{bands_of}
use Rattle.jx_geom.proofs.LeafLemmas.{name_here, name_later, leaf_there, leaf_is, number_once}
use Rattle.jx_tier2_reader.proofs.BlockLemmas.{blocks_long, block_there, block_named, BlockAt}
use Rattle.jx_codestream.proofs.RangeLemmas.{read_in_range}
use Rattle.jx_tile.proofs.TotalLemmas.{geometry_fits}
use Rattle.jx_tier2_reader.proofs.BodyLemmas.{read_data}
use Rattle.jx_tier2_reader.proofs.PartLemmas.{known_in, planes_of}
use Rattle.jx_tier2_reader.proofs.PutLemmas.{Tiled, IsOfBlock, put_found}
use Rattle.jx_tier2_reader.proofs.GrowLemmas.{Gained, Grows, pieces_sum, bytes_own}
use Rattle.jx_tier2_reader.proofs.TrackLemmas.{AreThere, Rise, AreAbove, Tracked, FromLeaf, AreFromLeaves, start_follow, track, founds_leaves, together, cuts_take}
use Rattle.jx_base.proofs.Lists.{contains_head, contains_tail, pairs_tail, pairs_head}
use Rattle.jx_base.specs.Bands.{bands_at}
use Rattle.jx_geom.proofs.EmptyLemmas.{zero_left as product_zero}
use Rattle.jx_base.proofs.Joined.{joined_all}
use Rattle.jx_tile.specs.Cells.{sizes_of, precinct_bands}
use Rattle.jx_tier2_reader.specs.Fresh.{fresh_precinct}
use Rattle.jx_base.specs.Limits.{most_bytes}

-- ---- a precinct before its first packet
pub fresh_unknown : (bs : List BandCells) (j : ℕ) → get_or (all_blocks (fresh_bands bs)) j unknown_block ≡ unknown_block
fresh_unknown [] j = refl
fresh_unknown (b ∷ bs) j = by (b.wide == 0) (λ (i : ℕ). fresh_unknown bs i)
  where
    by : (c : Bool) → ((i : ℕ) → get_or (all_blocks (fresh_bands bs)) i unknown_block ≡ unknown_block) →
        get_or (all_blocks (cond c (fresh_bands bs) (fresh_cells b ∷ fresh_bands bs))) j unknown_block ≡ unknown_block
    by true again = again j
    by false again = elim (cases_lt j (length (replicate (b.wide * b.high) unknown_block))) [
      | inl lt ↦ block_left (replicate (b.wide * b.high) unknown_block) (all_blocks (fresh_bands bs)) j unknown_block lt ∙ unknown_at (b.wide * b.high) j
      | inr ge ↦ block_right (replicate (b.wide * b.high) unknown_block) (all_blocks (fresh_bands bs)) j unknown_block ge ∙ again (j - length (replicate (b.wide * b.high) unknown_block))
    ]

-- its blocks' names
name_comp : (g : Geometry) (c r k : ℕ) (bands : List Band) (j : ℕ) → (name_from g c r k bands j).comp ≡ c
name_comp g c r k [] j = refl
name_comp g c r k (b ∷ bands) j = elim (cases_lt j (size_of (cells_at g c r k b))) [
  | inl lt ↦ ap (λ (n : BlockName). n.comp) (name_here g c r k b bands j lt)
  | inr ge ↦ ap (λ (n : BlockName). n.comp) (name_later g c r k b bands j ge) ∙ name_comp g c r k bands (j - size_of (cells_at g c r k b))
]

name_res : (g : Geometry) (c r k : ℕ) (bands : List Band) (j : ℕ) → (name_from g c r k bands j).res ≡ r
name_res g c r k [] j = refl
name_res g c r k (b ∷ bands) j = elim (cases_lt j (size_of (cells_at g c r k b))) [
  | inl lt ↦ ap (λ (n : BlockName). n.res) (name_here g c r k b bands j lt)
  | inr ge ↦ ap (λ (n : BlockName). n.res) (name_later g c r k b bands j ge) ∙ name_res g c r k bands (j - size_of (cells_at g c r k b))
]

bands_planes : (s : Stream) (g : Geometry) (c r k : ℕ) (bands : List Band) (j : ℕ) → j < leaves_in g c r k bands →
    planes_of (fresh_bands (bands_of s g c r k bands)) j ≡ planes_at s g.tile c r (name_from g c r k bands j).band
bands_planes s g c r k [] j lt = absurd (omega arith)
bands_planes s g c r k (b ∷ bands) j lt =
    by (cases_eq (size_of (cells_at g c r k b)) 0) (cases_lt j (size_of (cells_at g c r k b))) (λ (i : ℕ) (l : i < leaves_in g c r k bands). bands_planes s g c r k bands i l)
  where
    Again : Type 0
    Again = (i : ℕ) → i < leaves_in g c r k bands → planes_of (fresh_bands (bands_of s g c r k bands)) i ≡ planes_at s g.tile c r (name_from g c r k bands i).band

    none : BandCells
    none = record { wide = 0; high = 0; planes = planes_at s g.tile c r b }

    some : BandCells
    some = record { wide = length_of (cells_at g c r k b).x; high = length_of (cells_at g c r k b).y; planes = planes_at s g.tile c r b }

    opened : (size_of (cells_at g c r k b) ≡ 0 → ⊥) → fresh_bands (sizes_of (cells_at g c r k b) (planes_at s g.tile c r b) ∷ bands_of s g c r k bands) ≡ fresh_cells some ∷ fresh_bands (bands_of s g c r k bands)
    opened ne =
        ap (λ (x : BandCells). fresh_bands (x ∷ bands_of s g c r k bands)) (cond-false (size_of (cells_at g c r k b) == 0) none some (ne_eqb (size_of (cells_at g c r k b)) 0 ne))
        ∙ cond-false (length_of (cells_at g c r k b).x == 0) (fresh_bands (bands_of s g c r k bands)) (fresh_cells some ∷ fresh_bands (bands_of s g c r k bands))
        (ne_eqb (length_of (cells_at g c r k b).x) 0 (λ (e : length_of (cells_at g c r k b).x ≡ 0). ne (product_zero (length_of (cells_at g c r k b).x) (length_of (cells_at g c r k b).y) e)))

    long : length (replicate (length_of (cells_at g c r k b).x * length_of (cells_at g c r k b).y) unknown_block) ≡ size_of (cells_at g c r k b)
    long = length-replicate (length_of (cells_at g c r k b).x * length_of (cells_at g c r k b).y) unknown_block

    told : (size_of (cells_at g c r k b) ≡ 0 → ⊥) → planes_of (fresh_bands (sizes_of (cells_at g c r k b) (planes_at s g.tile c r b) ∷ bands_of s g c r k bands)) j
        ≡ (if nat_lt j (size_of (cells_at g c r k b)) then planes_at s g.tile c r b else planes_of (fresh_bands (bands_of s g c r k bands)) (j - size_of (cells_at g c r k b)))
    told ne =
        ap (λ (l : List Cells). planes_of l j) (opened ne)
        ∙ ap (λ (n : ℕ). if nat_lt j n then planes_at s g.tile c r b else planes_of (fresh_bands (bands_of s g c r k bands)) (j - n)) long

    by : (size_of (cells_at g c r k b) ≡ 0) ⊎ (size_of (cells_at g c r k b) ≡ 0 → ⊥) → (j < size_of (cells_at g c r k b)) ⊎ (size_of (cells_at g c r k b) ≤ j) → Again →
        planes_of (fresh_bands (sizes_of (cells_at g c r k b) (planes_at s g.tile c r b) ∷ bands_of s g c r k bands)) j ≡ planes_at s g.tile c r (name_from g c r k (b ∷ bands) j).band
    by (inl e) (inl lt') again = absurd (omega arith)
    by (inl e) (inr ge) again =
        let gone : j - size_of (cells_at g c r k b) ≡ j = omega arith in
        ap (λ (x : BandCells). planes_of (fresh_bands (x ∷ bands_of s g c r k bands)) j) (cond-true (size_of (cells_at g c r k b) == 0) none some (eq-eqb (size_of (cells_at g c r k b)) 0 e))
        ∙ again j (omega arith)
        ∙ ap (λ (i : ℕ). planes_at s g.tile c r (name_from g c r k bands i).band) (sym gone)
        ∙ ap (λ (n : BlockName). planes_at s g.tile c r n.band) (sym (name_later g c r k b bands j ge))
    by (inr ne) (inl lt') again =
        told ne
        ∙ cond-true (nat_lt j (size_of (cells_at g c r k b))) (planes_at s g.tile c r b) (planes_of (fresh_bands (bands_of s g c r k bands)) (j - size_of (cells_at g c r k b))) (lt-ltb j (size_of (cells_at g c r k b)) lt')
        ∙ ap (λ (n : BlockName). planes_at s g.tile c r n.band) (sym (name_here g c r k b bands j lt'))
    by (inr ne) (inr ge) again =
        told ne
        ∙ cond-false (nat_lt j (size_of (cells_at g c r k b))) (planes_at s g.tile c r b) (planes_of (fresh_bands (bands_of s g c r k bands)) (j - size_of (cells_at g c r k b))) (le-ltb j (size_of (cells_at g c r k b)) ge)
        ∙ again (j - size_of (cells_at g c r k b)) (omega arith)
        ∙ ap (λ (n : BlockName). planes_at s g.tile c r n.band) (sym (name_later g c r k b bands j ge))

pub leaf_planes : (s : Stream) (g : Geometry) (c r k j : ℕ) → j < leaves g c r k → planes_of (fresh_precinct s g c r k).bands j ≡ planes_at s g.tile c r (leaf_name g c r k j).band
unfolding precinct_bands leaf_name
leaf_planes s g c r k j lt = bands_planes s g c r k (bands_at r) j lt

leaf_comp : (g : Geometry) (c r k j : ℕ) → (leaf_name g c r k j).comp ≡ c
unfolding leaf_name
leaf_comp g c r k j = name_comp g c r k (bands_at r) j

leaf_res : (g : Geometry) (c r k j : ℕ) → (leaf_name g c r k j).res ≡ r
unfolding leaf_name
leaf_res g c r k j = name_res g c r k (bands_at r) j

-- ---- packets that a tile's list begins with
-- a tile whose data begin with these packets
pub record IsBegun (b : List ℕ) (s : Stream) (t : ℕ) (cuts : List Cut) (left : Left) : Type 0 where
  pub range : StreamInRange s
  pub tile : t < tile_number s.siz
  pub limits : GeometryInRange (geometry s t)
  pub there : AreThere (geometry s t) cuts
  pub rise : Rise (geometry s t) cuts
  pub are : AreCuts b (geometry s t) 0 (start b s t) cuts left
  pub few : together (tile_at s t).bodies ≤ most_bytes

there_from : (g : Geometry) (layers : ℕ) (cuts : List Cut) → ((p : PacketName) → Contains (names_of cuts) p → IsPacketName g layers p) → AreThere g cuts
there_from g layers [] all = tt
there_from g layers (c ∷ cuts) all =
    let is : IsPacketName g layers c.name = all c.name (contains_head c.name (names_of cuts)) in (
      record { resolution = is.resolution; precinct = is.precinct },
      there_from g layers cuts (λ (p : PacketName) (h : Contains (names_of cuts) p). all p (contains_tail c.name (names_of cuts) p h)),
    )

abbrev Rises : PacketName → PacketName → Type 0
Rises p q = SamePrecinct p q → p.layer < q.layer

later_rise : (g : Geometry) (c : Cut) (cuts : List Cut) → HasPrecinct g c.name.comp c.name.res c.name.precinct → AreThere g cuts → ((q : PacketName) → Contains (names_of cuts) q → Rises c.name q) →
    AllByRecursion (λ (d : Cut). number_of g c.name ≡ number_of g d.name → c.name.layer < d.name.layer) cuts
later_rise g c [] own there all = tt
later_rise g c (d ∷ cuts) own there all = (
  (λ (e : number_of g c.name ≡ number_of g d.name).
      (let one = precinct_once g c.name.comp c.name.res c.name.precinct d.name.comp d.name.res d.name.precinct own there.0 e in
      all d.name (contains_head d.name (names_of cuts)) (record { comp = one.0; res = one.1; precinct = one.2 }))),
  later_rise g c cuts own there.1 (λ (q : PacketName) (h : Contains (names_of cuts) q). all q (contains_tail d.name (names_of cuts) q h)),
)

rise_from : (g : Geometry) (cuts : List Cut) (rest : List PacketName) → AreThere g cuts → AllPairs Rises (names_of cuts ++ rest) → Rise g cuts
rise_from g [] rest there all = tt
rise_from g (c ∷ cuts) rest there all = (
  later_rise g c cuts there.0 there.1 (λ (q : PacketName) (h : Contains (names_of cuts) q). pairs_head Rises c.name (names_of cuts ++ rest) q all (Contains-append_left (names_of cuts) rest q h)),
  rise_from g cuts rest there.1 (pairs_tail Rises c.name (names_of cuts ++ rest) all),
)

pub begun : (b : List ℕ) (s : Stream) (t : ℕ) (cuts : List Cut) (rest : List PacketName) (left : Left) → StreamInRange s → GeometryInRange (geometry s t) → t < tile_number s.siz → length b ≤ most_bytes →
    DataInRange b (tile_at s t).bodies → IsListOf s t (names_of cuts ++ rest) → AreCuts b (geometry s t) 0 (start b s t) cuts left → IsBegun b s t cuts left
begun b s t cuts rest left range limits tile short bodies list are =
    let entries = (tile_at s t).progressions in
    let there : AreThere (geometry s t) cuts = there_from (geometry s t) (layers_of s t) cuts (λ (p : PacketName) (h : Contains (names_of cuts) p).
    (order_to (geometry s t) (layers_of s t) entries (length entries) (names_of cuts ++ rest) list p (Contains-append_left (names_of cuts) rest p h)).packet) in
    let sum : together (tile_at s t).bodies ≤ length b = bodies.together in
    record {
      range = range;
      tile = tile;
      limits = limits;
      there = there;
      rise = rise_from (geometry s t) cuts rest there (order_rises (geometry s t) (layers_of s t) entries (length entries) (names_of cuts ++ rest) list);
      are = are;
      few = omega arith;
    }

pub begun_leaves : (b : List ℕ) (s : Stream) (t : ℕ) (cuts : List Cut) (left : Left) → IsBegun b s t cuts left → AreFromLeaves (geometry s t) (founds_of (geometry s t) cuts)
begun_leaves b s t cuts left h = founds_leaves b s (geometry s t) 0 cuts (start b s t) left h.there (start_follow s (geometry s t)) h.are

-- ---- one block
pub record OfNumber (g : Geometry) (i : ℕ) (f : FoundPiece) : Type 0 where
  pub leaf : FromLeaf g f
  pub number : f.number ≡ i

pub own_have : (g : Geometry) (i : ℕ) (founds : List FoundPiece) → AreFromLeaves g founds → AllByRecursion (OfNumber g i) (own_founds i founds)
unfolding own_founds
own_have g i [] all = tt
own_have g i (f ∷ founds) all = by (f.number == i) refl (own_have g i founds all.1)
  where
    by : (b : Bool) → (f.number == i) ≡ b → AllByRecursion (OfNumber g i) (filter (λ (x : FoundPiece). x.number == i) founds) →
        AllByRecursion (OfNumber g i) (cond b (f ∷ filter (λ (x : FoundPiece). x.number == i) founds) (filter (λ (x : FoundPiece). x.number == i) founds))
    by true e again = (record { leaf = all.0; number = eqb-true f.number i e }, again)
    by false e again = again

above_zero : (g : Geometry) (number : ℕ) (cuts : List Cut) → AreAbove g number 0 cuts
above_zero g number [] = tt
above_zero g number (c ∷ cuts) = ((λ (e : number_of g c.name ≡ number). (let z : 0 ≤ c.name.layer = omega arith in z)), above_zero g number cuts)

block_size : (g : Geometry) (n : BlockName) → GeometryInRange g → HasBlock g n → HasBlockSize (block_rect (rect_of_tile g) (shape_of g n.comp) n.res n.band n.index)
block_size g n h is =
    let fits : BlockFits (block_rect (rect_of_tile g) (shape_of g n.comp) n.res n.band n.index) =
    block_fits (rect_of_tile g) (shape_of g n.comp) n.res n.band n.index (h.shapes n.comp is.resolution.component) is.index in
    let across = fits.some_across in
    let down = fits.some_down in
    record { wide = omega arith; high = omega arith; most_wide = fits.wide; most_high = fits.high; most = fits.area }

-- it has no piece
sound_none : (s : Stream) (g : Geometry) (n : BlockName) → HasBlockSize (block_rect (rect_of_tile g) (shape_of g n.comp) n.res n.band n.index) → planes_at s g.tile n.comp n.res n.band ≤ 74 →
    IsSound (block_with s g n [])
sound_none s g n size planes = record { size = size; planes = planes; zero = omega arith; few = omega arith; pieces = refl; bytes = omega arith }

-- it has some
sound_some : (s : Stream) (g : Geometry) (n : BlockName) (own : List FoundPiece) (new : Known) → HasBlockSize (block_rect (rect_of_tile g) (shape_of g n.comp) n.res n.band n.index) →
    planes_at s g.tile n.comp n.res n.band ≤ 74 → bytes_in (pieces_in own) ≤ most_bytes →
    Gained (style_of s g.tile n.comp) (planes_at s g.tile n.comp n.res n.band) 0 own unknown_block new → IsSound (block_with s g n own)
sound_some s g n own new size planes bytes gained =
    let told : zero_from (planes_at s g.tile n.comp n.res n.band) own ≡ gained.z = gained.told in
    let below : gained.z < planes_at s g.tile n.comp n.res n.band = gained.below in
    let few : new.passes ≤ 3 * (planes_at s g.tile n.comp n.res n.band - gained.z) - 2 = gained.few in
    let sum : 0 + passes_in own ≡ new.passes = pieces_sum (style_of s g.tile n.comp) 0 0 new.passes own gained.pieces in
    let passes : new.passes ≡ passes_in own = omega arith in
    record {
      size = size;
      planes = planes;
      zero = omega arith;
      few = subst (λ (z : ℕ). passes_in own ≤ 3 * (planes_at s g.tile n.comp n.res n.band - z) - 2) (sym told) (omega arith);
      pieces = subst (λ (m : ℕ). ArePieces (style_of s g.tile n.comp) 0 0 m (pieces_in own)) passes gained.pieces;
      bytes = bytes;
    }

-- the same, told of its precinct's block
same_gained : (s : Stream) (g : Geometry) (n : BlockName) (c r k j : ℕ) (own : List FoundPiece) (new : Known) → HasBlock g n → HasBlock g (leaf_name g c r k j) → j < leaves g c r k →
    number_in_tile g n ≡ leaf_number g c r k j → Gained (style_of s g.tile c) (planes_of (fresh_precinct s g c r k).bands j) 0 own (known_in (fresh_precinct s g c r k).bands j) new →
    Gained (style_of s g.tile n.comp) (planes_at s g.tile n.comp n.res n.band) 0 own unknown_block new
same_gained s g n c r k j own new is there lt number gained =
    let one = number_once g n (leaf_name g c r k j) is there (number ∙ leaf_is g c r k j) in
    let comp : c ≡ n.comp = sym (one.0 ∙ leaf_comp g c r k j) in
    let res : r ≡ n.res = sym (one.1 ∙ leaf_res g c r k j) in
    let band : (leaf_name g c r k j).band ≡ n.band = sym one.2 in
    let planes : planes_of (fresh_precinct s g c r k).bands j ≡ planes_at s g.tile n.comp n.res n.band =
    leaf_planes s g c r k j lt ∙ ap (λ (x : ℕ). planes_at s g.tile x r (leaf_name g c r k j).band) comp ∙ ap (λ (x : ℕ). planes_at s g.tile n.comp x (leaf_name g c r k j).band) res
    ∙ ap (λ (x : Band). planes_at s g.tile n.comp n.res x) band in
    subst (λ (x : ℕ). Gained (style_of s g.tile x) (planes_at s g.tile n.comp n.res n.band) 0 own unknown_block new) comp
    (subst (λ (x : ℕ). Gained (style_of s g.tile c) x 0 own unknown_block new) planes
    (subst (λ (x : Known). Gained (style_of s g.tile c) (planes_of (fresh_precinct s g c r k).bands j) 0 own x new) (fresh_unknown (precinct_bands s g c r k) j) gained))

pub sound_block : (b : List ℕ) (s : Stream) (t : ℕ) (cuts : List Cut) (left : Left) (n : BlockName) → IsBegun b s t cuts left → HasBlock (geometry s t) n →
    IsSound (block_of s (geometry s t) (founds_of (geometry s t) cuts) n)
sound_block b s t cuts left n h is =
    by (own_founds (number_in_tile (geometry s t) n) (founds_of (geometry s t) cuts)) refl
    (own_have (geometry s t) (number_in_tile (geometry s t) n) (founds_of (geometry s t) cuts) (begun_leaves b s t cuts left h)) few
  where
    few : bytes_in (pieces_in (own_founds (number_in_tile (geometry s t) n) (founds_of (geometry s t) cuts))) ≤ most_bytes
    few =
        let all : bytes_in (pieces_in (founds_of (geometry s t) cuts)) ≤ together (tile_at s t).bodies = cuts_take b (geometry s t) 0 cuts (start b s t) left h.are in
        let own : bytes_in (pieces_in (own_founds (number_in_tile (geometry s t) n) (founds_of (geometry s t) cuts))) ≤ bytes_in (pieces_in (founds_of (geometry s t) cuts)) =
        bytes_own (number_in_tile (geometry s t) n) (founds_of (geometry s t) cuts) in
        let small : together (tile_at s t).bodies ≤ most_bytes = h.few in
        omega arith

    size : HasBlockSize (block_rect (rect_of_tile (geometry s t)) (shape_of (geometry s t) n.comp) n.res n.band n.index)
    size = block_size (geometry s t) n h.limits is

    planes : planes_at s t n.comp n.res n.band ≤ 74
    planes = h.range.planes t n.comp n.res n.band h.tile is.resolution is.band

    grown : (own : List FoundPiece) (f : FoundPiece) (fs : List FoundPiece) (c r k j : ℕ) (new : Known) → own ≡ f ∷ fs → HasPrecinct (geometry s t) c r k → j < leaves (geometry s t) c r k →
        number_in_tile (geometry s t) n ≡ leaf_number (geometry s t) c r k j → bytes_in (pieces_in own) ≤ most_bytes →
        Grows (style_of s t c) (planes_of (fresh_precinct s (geometry s t) c r k).bands j) 0 own (known_in (fresh_precinct s (geometry s t) c r k).bands j) new → IsSound (block_with s (geometry s t) n own)
    grown own f fs c r k j new e there lt number small (inl none) = absurd (let z : length (f ∷ fs) ≡ 0 = ap (λ (l : List FoundPiece). length l) (sym e ∙ none.0) in omega arith)
    grown own f fs c r k j new e there lt number small (inr gained) =
        sound_some s (geometry s t) n own new size planes small
        (same_gained s (geometry s t) n c r k j own new is (leaf_there (geometry s t) c r k j h.limits there lt) lt number gained)

    by : (own : List FoundPiece) → own_founds (number_in_tile (geometry s t) n) (founds_of (geometry s t) cuts) ≡ own → AllByRecursion (OfNumber (geometry s t) (number_in_tile (geometry s t) n)) own →
        bytes_in (pieces_in own) ≤ most_bytes → IsSound (block_with s (geometry s t) n own)
    by [] e all small = sound_none s (geometry s t) n size planes
    by (f ∷ fs) e all small =
        let leaf : FromLeaf (geometry s t) f = all.0.leaf in
        let number : number_in_tile (geometry s t) n ≡ leaf_number (geometry s t) leaf.comp leaf.res leaf.precinct leaf.block = sym (leaf.number ∙ all.0.number) in
        let tracked : Tracked s (geometry s t) leaf.comp leaf.res leaf.precinct leaf.block 0 (founds_of (geometry s t) cuts) (fresh_precinct s (geometry s t) leaf.comp leaf.res leaf.precinct) left.states =
        track b s (geometry s t) leaf.comp leaf.res leaf.precinct leaf.block 0 0 cuts (start b s t) left (fresh_precinct s (geometry s t) leaf.comp leaf.res leaf.precinct) h.limits leaf.there leaf.inside h.there h.rise
        (start_follow s (geometry s t)) (above_zero (geometry s t) (precinct_number (geometry s t) leaf.comp leaf.res leaf.precinct) cuts) h.are
        (precinct_there s (geometry s t) leaf.comp leaf.res leaf.precinct leaf.there) in
        let own : own_founds (leaf_number (geometry s t) leaf.comp leaf.res leaf.precinct leaf.block) (founds_of (geometry s t) cuts) ≡ f ∷ fs =
        ap (λ (i : ℕ). own_founds i (founds_of (geometry s t) cuts)) (sym number) ∙ e in
        grown (f ∷ fs) f fs leaf.comp leaf.res leaf.precinct leaf.block (known_in tracked.after.bands leaf.block) refl leaf.there leaf.inside number small
        (subst (λ (l : List FoundPiece). Grows (style_of s t leaf.comp) (planes_of (fresh_precinct s (geometry s t) leaf.comp leaf.res leaf.precinct).bands leaf.block) 0 l
        (known_in (fresh_precinct s (geometry s t) leaf.comp leaf.res leaf.precinct).bands leaf.block) (known_in tracked.after.bands leaf.block)) own tracked.grows)

-- ---- all blocks of a tile
pub sound_cuts : (b : List ℕ) (s : Stream) (t : ℕ) (cuts : List Cut) (left : Left) → IsBegun b s t cuts left → All IsSound (blocks_of_tile s (geometry s t) (founds_of (geometry s t) cuts))
sound_cuts b s t cuts left h i d lt =
    let at : BlockAt s (geometry s t) (founds_of (geometry s t) cuts) i = block_named s (geometry s t) (founds_of (geometry s t) cuts) i h.limits lt in
    let block : Block = block_of s (geometry s t) (founds_of (geometry s t) cuts) at.name in
    subst (λ (x : Block). IsSound x) (sym (get_or_from_slice_get (blocks_of_tile s (geometry s t) (founds_of (geometry s t) cuts)) i block d at.found)) (sound_block b s t cuts left at.name h at.there)

-- few passes
pub passes_fit : (b : List ℕ) (s : Stream) (t : ℕ) (cuts : List Cut) (left : Left) → IsBegun b s t cuts left → All (λ (k : Block). k.passes < 2 ^ 16) (blocks_of_tile s (geometry s t) (founds_of (geometry s t) cuts))
passes_fit b s t cuts left h = All-weaker IsSound (λ (k : Block). k.passes < 2 ^ 16) few (blocks_of_tile s (geometry s t) (founds_of (geometry s t) cuts)) (sound_cuts b s t cuts left h)
  where
    few : (k : Block) → IsSound k → k.passes < 2 ^ 16
    few k is =
        let passes : k.passes ≤ 3 * (k.planes - k.zero) - 2 = is.few in
        let planes : k.planes ≤ 74 = is.planes in
        omega arith

-- pieces put to them
pub tiled : (s : Stream) (g : Geometry) → GeometryInRange g → Tiled s g
tiled s g h = record {
  long = λ founds. blocks_long s g founds ∙ sym (blocks_long s g []);
  there = λ founds n is. block_there s g founds n is;
  named = λ i lt. (let at : BlockAt s g [] i = block_named s g [] i h lt in (at.name, (at.there, at.number)));
}

of_blocks : (g : Geometry) (founds : List FoundPiece) → GeometryInRange g → AreFromLeaves g founds → AllByRecursion (IsOfBlock g) founds
of_blocks g [] h all = tt
of_blocks g (f ∷ founds) h all =
    let leaf : FromLeaf g f = all.0 in (
      record {
        name = leaf_name g leaf.comp leaf.res leaf.precinct leaf.block;
        there = leaf_there g leaf.comp leaf.res leaf.precinct leaf.block h leaf.there leaf.inside;
        number = sym (leaf_is g leaf.comp leaf.res leaf.precinct leaf.block) ∙ leaf.number;
      },
      of_blocks g founds h all.1,
    )

pub put_cuts : (b : List ℕ) (s : Stream) (t : ℕ) (cuts : List Cut) (left : Left) → IsBegun b s t cuts left →
    put_all (blocks_of_tile s (geometry s t) []) (founds_of (geometry s t) cuts) ≡ blocks_of_tile s (geometry s t) (founds_of (geometry s t) cuts)
put_cuts b s t cuts left h =
    put_found s (geometry s t) (founds_of (geometry s t) cuts) (tiled s (geometry s t) h.limits)
    (All-from_recursion (IsOfBlock (geometry s t)) (founds_of (geometry s t) cuts) (of_blocks (geometry s t) (founds_of (geometry s t) cuts) h.limits (begun_leaves b s t cuts left h)))

-- ---- of a codestream that is read
pub read_begun : (b : List ℕ) (s : Stream) (t : ℕ) (cuts : List Cut) (rest : List PacketName) (left : Left) → IsRead b s → length b ≤ most_bytes → t < tile_number s.siz → totals_fault s ≡ None →
    IsListOf s t (names_of cuts ++ rest) → AreCuts b (geometry s t) 0 (start b s t) cuts left → IsBegun b s t cuts left
read_begun b s t cuts rest left read short tile totals list are =
    let range : StreamInRange s = read_in_range b s read in
    begun b s t cuts rest left range (geometry_fits s t range totals tile) tile short (read_data b s t read tile) list are

pub sound_blocks : (b : List ℕ) (s : Stream) (t : ℕ) (cuts : List Cut) → IsRead b s → length b ≤ most_bytes → t < tile_number s.siz → totals_fault s ≡ None → IsCutUp b s t cuts →
    All IsSound (blocks_of_tile s (geometry s t) (founds_of (geometry s t) cuts))
sound_blocks b s t cuts read short tile totals up =
    sound_cuts b s t cuts up.end (read_begun b s t cuts [] up.end read short tile totals (subst (λ (l : List PacketName). IsListOf s t l) (sym (append-nil (names_of cuts))) up.order) up.are)

pub sound_gathered : (b : List ℕ) (s : Stream) (blocks : List Block) → IsRead b s → length b ≤ most_bytes → totals_fault s ≡ None → IsGathered b s blocks → All IsSound blocks
sound_gathered b s blocks read short totals g =
    subst (λ (l : List Block). All IsSound l) (sym g.blocks_are) (joined_all IsSound g.tiles (tile_number s.siz) each)
  where
    each : (t : ℕ) → t < tile_number s.siz → All IsSound (g.tiles t)
    each t tile =
        let are = g.are t tile in
        subst (λ (l : List Block). All IsSound l) (sym are.2) (sound_blocks b s t are.0 read short tile totals are.1)
