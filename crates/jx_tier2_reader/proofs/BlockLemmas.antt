-- The blocks of a tile stand at their numbers.
use Rattle.std.proofs.Common.{◌≡◌, ℕ, zero, suc, ◌+◌, ◌≤◌, ◌<◌, List, ◌++◌, length, Some, inl, inr, ◌∙◌, ap, sym, subst, refl, arith, length-append, append-nil}
use Rattle.std.specs.List.{slice_get, flat_map}
use Rattle.std.proofs.lemmas.Bool.{cases_lt}
use Rattle.jx_base.specs.declared.names.Band.{Band}
use Rattle.jx_base.specs.declared.names.Band.TheVariants.{LL, HL, LH, HH}
use Rattle.jx_base.specs.declared.names.BlockName.{BlockName}
use Rattle.jx_base.specs.declared.pieces.Block.{Block}
use Rattle.jx_base.specs.Places.{size_of}
use Rattle.jx_geom.specs.declared.shape.CompShape.{CompShape}
use Rattle.jx_geom.specs.Rects.{tile_rect}
use Rattle.jx_geom.specs.Counts.{block_count, blocks_before_band, tile_count, resolution_blocks, component_blocks, tile_blocks}
use Rattle.jx_geom.specs.Geometry.{Geometry, GeometryInRange, HasBlock, shape_of, rect_of_tile, blocks_in, no_shape}
use Rattle.jx_geom.specs.Numbering.{number_in_tile, number_in_component, geometry_of, blocks_below, block_number}
use Rattle.jx_geom.specs.Ranges.{HasBand}
use Rattle.jx_geom.proofs.CountLemmas.{resolution_low, resolution_high, band_within}
use Rattle.jx_geom.proofs.LeafLemmas.{bands_low, bands_high}
use Rattle.jx_geom.proofs.NumberLemmas.{number_in_tile_below, block_number_taken}
use Rattle.jx_codestream.specs.declared.Stream.{Stream}
use Rattle.jx_tier2_reader.specs.Blocks.{FoundPiece, block_of, one_block, blocks_of_band, blocks_of_resolution, blocks_of_component, blocks_of_tile}
use Rattle.jx_base.specs.Joined.{joined, sum_below}
use Rattle.jx_base.proofs.Sums.{sum_below_more, sum_once, front_sum, whole_sum}
use Rattle.jx_base.proofs.Lists.{get_left, get_right}
use Rattle.jx_base.proofs.Joined.{joined_length, joined_at}

abbrev named : Geometry → ℕ → ℕ → Band → ℕ → BlockName
named g c r b i = record { tile = g.tile; comp = c; res = r; band = b; index = i }

ones_long : (s : Stream) (g : Geometry) (founds : List FoundPiece) (c r : ℕ) (b : Band) (n : ℕ) → sum_below (λ i. length (one_block s g founds c r b i)) n ≡ n
ones_long s g founds c r b zero = refl
ones_long s g founds c r b (suc n) =
    let before : sum_below (λ i. length (one_block s g founds c r b i)) n ≡ n = ones_long s g founds c r b n in omega arith

band_long : (s : Stream) (g : Geometry) (founds : List FoundPiece) (c r : ℕ) (b : Band)
    → length (blocks_of_band s g founds c r b) ≡ block_count (rect_of_tile g) (shape_of g c) r b
unfolding blocks_of_band
band_long s g founds c r b =
    joined_length (one_block s g founds c r b) (λ i. length (one_block s g founds c r b i)) (size_of (blocks_in g c r b)) (λ i. refl)
    ∙ ones_long s g founds c r b (size_of (blocks_in g c r b))

in_band : (s : Stream) (g : Geometry) (founds : List FoundPiece) (c r : ℕ) (b : Band) (i : ℕ) → i < size_of (blocks_in g c r b)
    → slice_get (blocks_of_band s g founds c r b) i ≡ Some (block_of s g founds (named g c r b i))
unfolding blocks_of_band
in_band s g founds c r b i lt =
    let e : sum_below (λ i. length (one_block s g founds c r b i)) i + 0 ≡ i = omega (arith, ones_long s g founds c r b i) in
    let at = joined_at (one_block s g founds c r b) (λ i. length (one_block s g founds c r b i)) (size_of (blocks_in g c r b)) i 0 (λ i. refl) lt (omega arith) in
    ap (λ n. slice_get (joined (one_block s g founds c r b) 0 (size_of (blocks_in g c r b))) n) (sym e) ∙ at

-- the blocks of a resolution by its bands
pub blocks_low : (s : Stream) (g : Geometry) (founds : List FoundPiece) (c r : ℕ) → r ≡ 0
    → blocks_of_resolution s g founds c r ≡ blocks_of_band s g founds c r LL
unfolding blocks_of_resolution
blocks_low s g founds c r e =
    ap (λ (bands : List Band). flat_map (blocks_of_band s g founds c r) bands) (bands_low r e) ∙ append-nil (blocks_of_band s g founds c r LL)

pub blocks_high : (s : Stream) (g : Geometry) (founds : List FoundPiece) (c r : ℕ) → 0 < r
    → blocks_of_resolution s g founds c r ≡ blocks_of_band s g founds c r HL ++ (blocks_of_band s g founds c r LH ++ blocks_of_band s g founds c r HH)
unfolding blocks_of_resolution
blocks_high s g founds c r some =
    ap (λ (bands : List Band). flat_map (blocks_of_band s g founds c r) bands) (bands_high r some)
    ∙ ap (λ (bs : List Block). blocks_of_band s g founds c r HL ++ (blocks_of_band s g founds c r LH ++ bs)) (append-nil (blocks_of_band s g founds c r HH))

resolution_long : (s : Stream) (g : Geometry) (founds : List FoundPiece) (c r : ℕ)
    → length (blocks_of_resolution s g founds c r) ≡ resolution_blocks (rect_of_tile g) (shape_of g c) r
resolution_long s g founds c r = elim (cases_lt 0 r) [
  | inl some ↦
      let whole = resolution_high (rect_of_tile g) (shape_of g c) r some in
      let e : length (blocks_of_resolution s g founds c r)
      ≡ length (blocks_of_band s g founds c r HL ++ (blocks_of_band s g founds c r LH ++ blocks_of_band s g founds c r HH))
      = ap (λ (bs : List Block). length bs) (blocks_high s g founds c r some) in
      omega (
        arith,
        length-append (blocks_of_band s g founds c r HL) (blocks_of_band s g founds c r LH ++ blocks_of_band s g founds c r HH),
        length-append (blocks_of_band s g founds c r LH) (blocks_of_band s g founds c r HH),
        band_long s g founds c r HL,
        band_long s g founds c r LH,
        band_long s g founds c r HH,
      )
  | inr none ↦
      let low : r ≡ 0 = omega arith in
      let e : length (blocks_of_resolution s g founds c r) ≡ length (blocks_of_band s g founds c r LL) = ap (λ (bs : List Block). length bs) (blocks_low s g founds c r low) in
      e ∙ band_long s g founds c r LL ∙ sym (resolution_low (rect_of_tile g) (shape_of g c) r low)
]

in_resolution : (s : Stream) (g : Geometry) (founds : List FoundPiece) (c r : ℕ) (b : Band) (i : ℕ) → HasBand r b → i < size_of (blocks_in g c r b)
    → slice_get (blocks_of_resolution s g founds c r) (blocks_before_band (rect_of_tile g) (shape_of g c) r b + i) ≡ Some (block_of s g founds (named g c r b i))
in_resolution s g founds c r LL i there lt =
    let none : 0 + i ≡ i = omega arith in
    ap (λ (bs : List Block). slice_get bs (0 + i)) (blocks_low s g founds c r there)
    ∙ ap (λ n. slice_get (blocks_of_band s g founds c r LL) n) none ∙ in_band s g founds c r LL i lt
in_resolution s g founds c r HL i there lt =
    let none : 0 + i ≡ i = omega arith in
    let within : i < length (blocks_of_band s g founds c r HL) = omega (arith, band_long s g founds c r HL) in
    ap (λ (bs : List Block). slice_get bs (0 + i)) (blocks_high s g founds c r there)
    ∙ ap (λ n. slice_get (blocks_of_band s g founds c r HL ++ (blocks_of_band s g founds c r LH ++ blocks_of_band s g founds c r HH)) n) none
    ∙ get_left (blocks_of_band s g founds c r HL) (blocks_of_band s g founds c r LH ++ blocks_of_band s g founds c r HH) i within
    ∙ in_band s g founds c r HL i lt
in_resolution s g founds c r LH i there lt =
    let n = block_count (rect_of_tile g) (shape_of g c) r HL + i in
    let within : i < length (blocks_of_band s g founds c r LH) = omega (arith, band_long s g founds c r LH) in
    ap (λ (bs : List Block). slice_get bs n) (blocks_high s g founds c r there)
    ∙ get_right (blocks_of_band s g founds c r HL) (blocks_of_band s g founds c r LH ++ blocks_of_band s g founds c r HH) n i (omega (arith, band_long s g founds c r HL))
    ∙ get_left (blocks_of_band s g founds c r LH) (blocks_of_band s g founds c r HH) i within
    ∙ in_band s g founds c r LH i lt
in_resolution s g founds c r HH i there lt =
    let n = block_count (rect_of_tile g) (shape_of g c) r HL + block_count (rect_of_tile g) (shape_of g c) r LH + i in
    let m = block_count (rect_of_tile g) (shape_of g c) r LH + i in
    ap (λ (bs : List Block). slice_get bs n) (blocks_high s g founds c r there)
    ∙ get_right (blocks_of_band s g founds c r HL) (blocks_of_band s g founds c r LH ++ blocks_of_band s g founds c r HH) n m (omega (arith, band_long s g founds c r HL))
    ∙ get_right (blocks_of_band s g founds c r LH) (blocks_of_band s g founds c r HH) m i (omega (arith, band_long s g founds c r LH))
    ∙ in_band s g founds c r HH i lt

component_long : (s : Stream) (g : Geometry) (founds : List FoundPiece) (c : ℕ) → length (blocks_of_component s g founds c) ≡ component_blocks (rect_of_tile g) (shape_of g c)
unfolding blocks_of_component component_blocks
component_long s g founds c =
    joined_length (blocks_of_resolution s g founds c) (resolution_blocks (rect_of_tile g) (shape_of g c)) ((shape_of g c).levels + 1) (resolution_long s g founds c)

pub blocks_long : (s : Stream) (g : Geometry) (founds : List FoundPiece) → length (blocks_of_tile s g founds) ≡ tile_blocks (rect_of_tile g) g.shapes
unfolding blocks_of_tile
blocks_long s g founds =
    joined_length (blocks_of_component s g founds) (λ c. component_blocks (rect_of_tile g) (shape_of g c)) (length g.shapes) (component_long s g founds)
    ∙ sym (whole_sum (component_blocks (rect_of_tile g)) g.shapes no_shape)

in_component : (s : Stream) (g : Geometry) (founds : List FoundPiece) (n : BlockName) → HasBlock g n
    → slice_get (blocks_of_component s g founds n.comp) (number_in_component (rect_of_tile g) (shape_of g n.comp) n.res n.band n.index)
    ≡ Some (block_of s g founds (named g n.comp n.res n.band n.index))
unfolding blocks_of_component
in_component s g founds n h =
    joined_at (blocks_of_resolution s g founds n.comp) (resolution_blocks (rect_of_tile g) (shape_of g n.comp)) ((shape_of g n.comp).levels + 1) n.res
    (blocks_before_band (rect_of_tile g) (shape_of g n.comp) n.res n.band + n.index) (resolution_long s g founds n.comp)
    (omega (arith, h.resolution.level)) (omega (arith, band_within (rect_of_tile g) (shape_of g n.comp) n.res n.band h.band, h.index))
    ∙ in_resolution s g founds n.comp n.res n.band n.index h.band h.index

within_component : (g : Geometry) (n : BlockName) → HasBlock g n
    → number_in_component (rect_of_tile g) (shape_of g n.comp) n.res n.band n.index < component_blocks (rect_of_tile g) (shape_of g n.comp)
unfolding component_blocks
within_component g n h =
    omega (
      arith,
      sum_below_more (resolution_blocks (rect_of_tile g) (shape_of g n.comp)) n.res ((shape_of g n.comp).levels + 1) (omega (arith, h.resolution.level)),
      band_within (rect_of_tile g) (shape_of g n.comp) n.res n.band h.band,
      h.index,
    )

-- a block's number as sums of terms by place
number_is : (g : Geometry) (n : BlockName) → n.comp ≤ length g.shapes
    → number_in_tile g n ≡ sum_below (λ c. component_blocks (rect_of_tile g) (shape_of g c)) n.comp
    + number_in_component (rect_of_tile g) (shape_of g n.comp) n.res n.band n.index
unfolding number_in_tile
number_is g n le = omega (arith, front_sum (component_blocks (rect_of_tile g)) g.shapes no_shape n.comp le)

in_tile : (s : Stream) (g : Geometry) (founds : List FoundPiece) (n : BlockName) → HasBlock g n
    → slice_get (blocks_of_tile s g founds) (number_in_tile g n) ≡ Some (block_of s g founds (named g n.comp n.res n.band n.index))
unfolding blocks_of_tile
in_tile s g founds n h =
    ap (λ i. slice_get (joined (blocks_of_component s g founds) 0 (length g.shapes)) i) (number_is g n (omega (arith, h.resolution.component)))
    ∙ joined_at (blocks_of_component s g founds) (λ c. component_blocks (rect_of_tile g) (shape_of g c)) (length g.shapes) n.comp
    (number_in_component (rect_of_tile g) (shape_of g n.comp) n.res n.band n.index) (component_long s g founds) h.resolution.component (within_component g n h)
    ∙ in_component s g founds n h

pub block_there : (s : Stream) (g : Geometry) (founds : List FoundPiece) (n : BlockName) → HasBlock g n
    → slice_get (blocks_of_tile s g founds) (number_in_tile g n) ≡ Some (block_of s g founds n)
block_there s g founds n h =
    let P : ℕ → Type 0 = λ t. slice_get (blocks_of_tile s g founds) (number_in_tile g n) ≡ Some (block_of s g founds (record { tile = t; comp = n.comp; res = n.res; band = n.band; index = n.index })) in
    subst P (sym h.tile) (in_tile s g founds n h)

-- each number below the count of a tile's blocks is that of one of them
pub number_named : (g : Geometry) (i : ℕ) → GeometryInRange g → i < tile_blocks (rect_of_tile g) g.shapes → (n : BlockName) × (HasBlock g n × (number_in_tile g n ≡ i))
unfolding block_number
number_named g i h lt =
    let shapes : ℕ → List CompShape = λ t. g.shapes in
    let more = sum_below_more (λ t. tile_blocks (tile_rect g.canvas t) g.shapes) g.tile (tile_count g.canvas) h.tile in
    let taken = block_number_taken g.canvas shapes (blocks_below g.canvas shapes g.tile + i) (omega arith) in
    let n = taken.0 in
    let one = sum_once (λ t. tile_blocks (tile_rect g.canvas t) g.shapes) n.tile g.tile (number_in_tile (geometry_of g.canvas shapes n.tile) n) i
    (number_in_tile_below (geometry_of g.canvas shapes n.tile) n taken.1.0.1) lt taken.1.1 in
    let P : ℕ → Type 0 = λ t. HasBlock (geometry_of g.canvas shapes t) n in
    let Q : ℕ → Type 0 = λ t. number_in_tile (geometry_of g.canvas shapes t) n ≡ i in
    (n, (subst P one.0 taken.1.0.1, subst Q one.0 one.1))

pub record BlockAt (s : Stream) (g : Geometry) (founds : List FoundPiece) (i : ℕ) : Type 0 where
  pub name : BlockName
  pub there : HasBlock g name
  pub number : number_in_tile g name ≡ i
  pub found : slice_get (blocks_of_tile s g founds) i ≡ Some (block_of s g founds name)

pub block_named : (s : Stream) (g : Geometry) (founds : List FoundPiece) (i : ℕ) → GeometryInRange g → i < length (blocks_of_tile s g founds) → BlockAt s g founds i
block_named s g founds i h lt =
    let n = number_named g i h (omega (arith, blocks_long s g founds)) in
    record {
      name = n.0;
      there = n.1.0;
      number = n.1.1;
      found = ap (λ j. slice_get (blocks_of_tile s g founds) j) (sym n.1.1) ∙ block_there s g founds n.0 n.1.0;
    }
