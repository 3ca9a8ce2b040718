-- The names of the code-blocks of a codestream, in the order of their numbers.
use Rattle.std.proofs.Common.{◌≡◌, ℕ, zero, suc, ◌+◌, ◌≤◌, ◌<◌, List, [], ◌∷◌, ◌++◌, length, Some, inl, inr, ◌∙◌, ap, sym, subst, refl, arith, length-append, append-nil}
use Rattle.std.specs.List.{slice_get, flat_map}
use Rattle.std.proofs.lemmas.Bool.{cases_lt}
use Rattle.jx_base.specs.declared.names.Band.{Band}
use Rattle.jx_base.specs.declared.names.Band.TheVariants.{LL, HL, LH, HH}
use Rattle.jx_base.specs.declared.names.BlockName.{BlockName}
use Rattle.jx_base.specs.Bands.{bands_at}
use Rattle.jx_base.specs.Places.{size_of}
use Rattle.jx_geom.specs.declared.shape.Canvas.{Canvas}
use Rattle.jx_geom.specs.declared.shape.CompShape.{CompShape}
use Rattle.jx_geom.specs.Rects.{tile_rect}
use Rattle.jx_geom.specs.Counts.{block_count, blocks_before_band, tile_count, resolution_blocks, component_blocks, tile_blocks}
use Rattle.jx_geom.specs.Geometry.{Geometry, HasBlock, shape_of, rect_of_tile, blocks_in, no_shape}
use Rattle.jx_geom.specs.Numbering.{number_in_tile, number_in_component, geometry_of, block_number, blocks_of_all, IsBlock}
use Rattle.jx_geom.specs.Ranges.{HasBand}
use Rattle.jx_geom.proofs.CountLemmas.{resolution_low, resolution_high, band_within}
use Rattle.jx_geom.proofs.LeafLemmas.{bands_low, bands_high}
use Rattle.jx_geom.proofs.NumberLemmas.{number_in_tile_below}
use Rattle.jx_base.specs.Joined.{joined, sum_below}
use Rattle.jx_base.proofs.Sums.{sum_below_more, front_sum, whole_sum}
use Rattle.jx_base.proofs.Lists.{get_left, get_right}
use Rattle.jx_base.proofs.Joined.{joined_length, joined_at}

abbrev pub named : Geometry → ℕ → ℕ → Band → ℕ → BlockName
named g c r b i = record { tile = g.tile; comp = c; res = r; band = b; index = i }

abbrev pub one_name : Geometry → ℕ → ℕ → Band → ℕ → List BlockName
one_name g c r b i = named g c r b i ∷ []

unfoldable pub names_of_band : Geometry → ℕ → ℕ → Band → List BlockName
names_of_band g c r b = joined (one_name g c r b) 0 (size_of (blocks_in g c r b))

unfoldable pub names_of_resolution : Geometry → ℕ → ℕ → List BlockName
names_of_resolution g c r = flat_map (names_of_band g c r) (bands_at r)

unfoldable pub names_of_component : Geometry → ℕ → List BlockName
names_of_component g c = joined (names_of_resolution g c) 0 ((shape_of g c).levels + 1)

unfoldable pub names_of_tile : Geometry → List BlockName
names_of_tile g = joined (names_of_component g) 0 (length g.shapes)

unfoldable pub names_of_all : Canvas → (ℕ → List CompShape) → List BlockName
names_of_all canvas shapes = joined (λ t. names_of_tile (geometry_of canvas shapes t)) 0 (tile_count canvas)

-- ---- a tile
ones_long : (g : Geometry) (c r : ℕ) (b : Band) (n : ℕ) → sum_below (λ i. length (one_name g c r b i)) n ≡ n
ones_long g c r b zero = refl
ones_long g c r b (suc n) =
    let before : sum_below (λ i. length (one_name g c r b i)) n ≡ n = ones_long g c r b n in omega arith

band_long : (g : Geometry) (c r : ℕ) (b : Band) → length (names_of_band g c r b) ≡ block_count (rect_of_tile g) (shape_of g c) r b
unfolding names_of_band
band_long g c r b =
    joined_length (one_name g c r b) (λ i. length (one_name g c r b i)) (size_of (blocks_in g c r b)) (λ i. refl)
    ∙ ones_long g c r b (size_of (blocks_in g c r b))

in_band : (g : Geometry) (c r : ℕ) (b : Band) (i : ℕ) → i < size_of (blocks_in g c r b) → slice_get (names_of_band g c r b) i ≡ Some (named g c r b i)
unfolding names_of_band
in_band g c r b i lt =
    let e : sum_below (λ i. length (one_name g c r b i)) i + 0 ≡ i = omega (arith, ones_long g c r b i) in
    let at = joined_at (one_name g c r b) (λ i. length (one_name g c r b i)) (size_of (blocks_in g c r b)) i 0 (λ i. refl) lt (omega arith) in
    ap (λ n. slice_get (joined (one_name g c r b) 0 (size_of (blocks_in g c r b))) n) (sym e) ∙ at

-- those of a resolution by its bands
pub names_low : (g : Geometry) (c r : ℕ) → r ≡ 0 → names_of_resolution g c r ≡ names_of_band g c r LL
unfolding names_of_resolution
names_low g c r e =
    ap (λ (bands : List Band). flat_map (names_of_band g c r) bands) (bands_low r e) ∙ append-nil (names_of_band g c r LL)

pub names_high : (g : Geometry) (c r : ℕ) → 0 < r → names_of_resolution g c r ≡ names_of_band g c r HL ++ (names_of_band g c r LH ++ names_of_band g c r HH)
unfolding names_of_resolution
names_high g c r some =
    ap (λ (bands : List Band). flat_map (names_of_band g c r) bands) (bands_high r some)
    ∙ ap (λ (bs : List BlockName). names_of_band g c r HL ++ (names_of_band g c r LH ++ bs)) (append-nil (names_of_band g c r HH))

resolution_long : (g : Geometry) (c r : ℕ) → length (names_of_resolution g c r) ≡ resolution_blocks (rect_of_tile g) (shape_of g c) r
resolution_long g c r = elim (cases_lt 0 r) [
  | inl some ↦
      let whole = resolution_high (rect_of_tile g) (shape_of g c) r some in
      let e : length (names_of_resolution g c r) ≡ length (names_of_band g c r HL ++ (names_of_band g c r LH ++ names_of_band g c r HH))
      = ap (λ (bs : List BlockName). length bs) (names_high g c r some) in
      omega (
        arith,
        length-append (names_of_band g c r HL) (names_of_band g c r LH ++ names_of_band g c r HH),
        length-append (names_of_band g c r LH) (names_of_band g c r HH),
        band_long g c r HL,
        band_long g c r LH,
        band_long g c r HH,
      )
  | inr none ↦
      let low : r ≡ 0 = omega arith in
      let e : length (names_of_resolution g c r) ≡ length (names_of_band g c r LL) = ap (λ (bs : List BlockName). length bs) (names_low g c r low) in
      e ∙ band_long g c r LL ∙ sym (resolution_low (rect_of_tile g) (shape_of g c) r low)
]

in_resolution : (g : Geometry) (c r : ℕ) (b : Band) (i : ℕ) → HasBand r b → i < size_of (blocks_in g c r b)
    → slice_get (names_of_resolution g c r) (blocks_before_band (rect_of_tile g) (shape_of g c) r b + i) ≡ Some (named g c r b i)
in_resolution g c r LL i there lt =
    let none : 0 + i ≡ i = omega arith in
    ap (λ (bs : List BlockName). slice_get bs (0 + i)) (names_low g c r there)
    ∙ ap (λ n. slice_get (names_of_band g c r LL) n) none ∙ in_band g c r LL i lt
in_resolution g c r HL i there lt =
    let none : 0 + i ≡ i = omega arith in
    let within : i < length (names_of_band g c r HL) = omega (arith, band_long g c r HL) in
    ap (λ (bs : List BlockName). slice_get bs (0 + i)) (names_high g c r there)
    ∙ ap (λ n. slice_get (names_of_band g c r HL ++ (names_of_band g c r LH ++ names_of_band g c r HH)) n) none
    ∙ get_left (names_of_band g c r HL) (names_of_band g c r LH ++ names_of_band g c r HH) i within
    ∙ in_band g c r HL i lt
in_resolution g c r LH i there lt =
    let n = block_count (rect_of_tile g) (shape_of g c) r HL + i in
    let within : i < length (names_of_band g c r LH) = omega (arith, band_long g c r LH) in
    ap (λ (bs : List BlockName). slice_get bs n) (names_high g c r there)
    ∙ get_right (names_of_band g c r HL) (names_of_band g c r LH ++ names_of_band g c r HH) n i (omega (arith, band_long g c r HL))
    ∙ get_left (names_of_band g c r LH) (names_of_band g c r HH) i within
    ∙ in_band g c r LH i lt
in_resolution g c r HH i there lt =
    let n = block_count (rect_of_tile g) (shape_of g c) r HL + block_count (rect_of_tile g) (shape_of g c) r LH + i in
    let m = block_count (rect_of_tile g) (shape_of g c) r LH + i in
    ap (λ (bs : List BlockName). slice_get bs n) (names_high g c r there)
    ∙ get_right (names_of_band g c r HL) (names_of_band g c r LH ++ names_of_band g c r HH) n m (omega (arith, band_long g c r HL))
    ∙ get_right (names_of_band g c r LH) (names_of_band g c r HH) m i (omega (arith, band_long g c r LH))
    ∙ in_band g c r HH i lt

component_long : (g : Geometry) (c : ℕ) → length (names_of_component g c) ≡ component_blocks (rect_of_tile g) (shape_of g c)
unfolding names_of_component component_blocks
component_long g c =
    joined_length (names_of_resolution g c) (resolution_blocks (rect_of_tile g) (shape_of g c)) ((shape_of g c).levels + 1) (resolution_long g c)

tile_long : (g : Geometry) → length (names_of_tile g) ≡ tile_blocks (rect_of_tile g) g.shapes
unfolding names_of_tile
tile_long g =
    joined_length (names_of_component g) (λ c. component_blocks (rect_of_tile g) (shape_of g c)) (length g.shapes) (component_long g)
    ∙ sym (whole_sum (component_blocks (rect_of_tile g)) g.shapes no_shape)

in_component : (g : Geometry) (n : BlockName) → HasBlock g n
    → slice_get (names_of_component g n.comp) (number_in_component (rect_of_tile g) (shape_of g n.comp) n.res n.band n.index) ≡ Some (named g n.comp n.res n.band n.index)
unfolding names_of_component
in_component g n h =
    joined_at (names_of_resolution g n.comp) (resolution_blocks (rect_of_tile g) (shape_of g n.comp)) ((shape_of g n.comp).levels + 1) n.res
    (blocks_before_band (rect_of_tile g) (shape_of g n.comp) n.res n.band + n.index) (resolution_long g n.comp)
    (omega (arith, h.resolution.level)) (omega (arith, band_within (rect_of_tile g) (shape_of g n.comp) n.res n.band h.band, h.index))
    ∙ in_resolution g n.comp n.res n.band n.index h.band h.index

within_component : (g : Geometry) (n : BlockName) → HasBlock g n
    → number_in_component (rect_of_tile g) (shape_of g n.comp) n.res n.band n.index < component_blocks (rect_of_tile g) (shape_of g n.comp)
unfolding component_blocks
within_component g n h =
    omega (
      arith,
      sum_below_more (resolution_blocks (rect_of_tile g) (shape_of g n.comp)) n.res ((shape_of g n.comp).levels + 1) (omega (arith, h.resolution.level)),
      band_within (rect_of_tile g) (shape_of g n.comp) n.res n.band h.band,
      h.index,
    )

-- a block's number as sums of terms by place
number_is : (g : Geometry) (n : BlockName) → n.comp ≤ length g.shapes
    → number_in_tile g n ≡ sum_below (λ c. component_blocks (rect_of_tile g) (shape_of g c)) n.comp
    + number_in_component (rect_of_tile g) (shape_of g n.comp) n.res n.band n.index
unfolding number_in_tile
number_is g n le = omega (arith, front_sum (component_blocks (rect_of_tile g)) g.shapes no_shape n.comp le)

in_tile : (g : Geometry) (n : BlockName) → HasBlock g n → slice_get (names_of_tile g) (number_in_tile g n) ≡ Some (named g n.comp n.res n.band n.index)
unfolding names_of_tile
in_tile g n h =
    ap (λ i. slice_get (joined (names_of_component g) 0 (length g.shapes)) i) (number_is g n (omega (arith, h.resolution.component)))
    ∙ joined_at (names_of_component g) (λ c. component_blocks (rect_of_tile g) (shape_of g c)) (length g.shapes) n.comp
    (number_in_component (rect_of_tile g) (shape_of g n.comp) n.res n.band n.index) (component_long g) h.resolution.component (within_component g n h)
    ∙ in_component g n h

name_there : (g : Geometry) (n : BlockName) → HasBlock g n → slice_get (names_of_tile g) (number_in_tile g n) ≡ Some n
name_there g n h =
    let P : ℕ → Type 0 = λ t. slice_get (names_of_tile g) (number_in_tile g n) ≡ Some (record { tile = t; comp = n.comp; res = n.res; band = n.band; index = n.index }) in
    subst P (sym h.tile) (in_tile g n h)

-- ---- all tiles
pub all_long : (c : Canvas) (shapes : ℕ → List CompShape) → length (names_of_all c shapes) ≡ blocks_of_all c shapes
unfolding names_of_all
all_long c shapes =
    joined_length (λ t. names_of_tile (geometry_of c shapes t)) (λ t. tile_blocks (tile_rect c t) (shapes t)) (tile_count c) (λ t. tile_long (geometry_of c shapes t))

-- a name stands at its number
pub name_at : (c : Canvas) (shapes : ℕ → List CompShape) (n : BlockName) → IsBlock c shapes n → slice_get (names_of_all c shapes) (block_number c shapes n) ≡ Some n
unfolding names_of_all block_number
name_at c shapes n h =
    joined_at (λ t. names_of_tile (geometry_of c shapes t)) (λ t. tile_blocks (tile_rect c t) (shapes t)) (tile_count c) n.tile
    (number_in_tile (geometry_of c shapes n.tile) n) (λ t. tile_long (geometry_of c shapes t)) h.0 (number_in_tile_below (geometry_of c shapes n.tile) n h.1)
    ∙ name_there (geometry_of c shapes n.tile) n h.1
