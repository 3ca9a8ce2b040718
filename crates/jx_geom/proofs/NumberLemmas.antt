-- The number of a block is below the count of blocks, and grows with the block's name.
use Rattle.std.proofs.Common.{zero, suc, ◌-◌, ◌≡◌, ℕ, ◌+◌, ◌≤◌, ◌<◌, ◌⊎◌, inl, inr, refl, arith, subst, sym, ap, List, length, get_or, take, sum_by}
use Rattle.std.proofs.lemmas.List.{take-take}
use Rattle.std.proofs.Math.Seq.{take-length}
use Rattle.std.proofs.lemmas.Bool.{cases_lt}
use Rattle.jx_base.specs.declared.names.Band.TheVariants.{LL, HL, LH, HH}
use Rattle.std.proofs.lemmas.List.Sums.{sum_by_more_le, sum_by_more, sum_by-take-le}
use Rattle.jx_base.specs.declared.names.Rect.{Rect}
use Rattle.jx_base.specs.declared.names.Band.{Band}
use Rattle.jx_base.specs.declared.names.BlockName.{BlockName}
use Rattle.jx_geom.specs.declared.shape.Canvas.{Canvas}
use Rattle.jx_geom.specs.declared.shape.CompShape.{CompShape}
use Rattle.jx_geom.specs.Ranges.{HasBand}
use Rattle.jx_geom.specs.Rects.{tile_rect}
use Rattle.jx_geom.specs.Counts.{block_count, resolution_blocks, blocks_before_band, component_blocks, tile_blocks, tile_count}
use Rattle.jx_geom.specs.Geometry.{Geometry, HasBlock, no_shape, shape_of, rect_of_tile}
use Rattle.jx_geom.specs.Numbering.{band_place, ComesBefore, number_in_component, number_in_tile, geometry_of, blocks_below, block_number, blocks_of_all, IsBlock}
use Rattle.jx_geom.proofs.CountLemmas.{band_within, band_before, resolution_low, resolution_high}
use Rattle.jx_base.specs.Joined.{sum_below}
use Rattle.jx_base.proofs.Sums.{sum_below_more, front_sum}

-- within a resolution, and within a component
in_resolution : (tile : Rect) (s : CompShape) (r : ℕ) (b : Band) (i : ℕ) → HasBand r b → i < block_count tile s r b
    → blocks_before_band tile s r b + i < resolution_blocks tile s r
in_resolution tile s r b i there lt = omega (arith, band_within tile s r b there)

in_component : (tile : Rect) (s : CompShape) (r : ℕ) (b : Band) (i : ℕ) → r ≤ s.levels → HasBand r b → i < block_count tile s r b
    → number_in_component tile s r b i < component_blocks tile s
unfolding component_blocks
in_component tile s r b i le there lt =
    omega (arith, sum_below_more (resolution_blocks tile s) r (s.levels + 1) (omega arith), in_resolution tile s r b i there lt)

pub number_in_tile_below : (g : Geometry) (n : BlockName) → HasBlock g n → number_in_tile g n < tile_blocks (rect_of_tile g) g.shapes
unfolding number_in_tile
number_in_tile_below g n h =
    let inner = in_component (rect_of_tile g) (shape_of g n.comp) n.res n.band n.index h.resolution.level h.band h.index in
    let outer = sum_by_more_le (component_blocks (rect_of_tile g)) g.shapes n.comp no_shape h.resolution.component in
    omega (arith, inner, outer)

-- an earlier resolution, an earlier band, an earlier place
resolution_first : (tile : Rect) (s : CompShape) (r q : ℕ) (b c : Band) (i j : ℕ) → r < q → HasBand r b → i < block_count tile s r b
    → number_in_component tile s r b i < number_in_component tile s q c j
resolution_first tile s r q b c i j lt there some =
    omega (arith, sum_below_more (resolution_blocks tile s) r q lt, in_resolution tile s r b i there some)

band_first : (tile : Rect) (s : CompShape) (r : ℕ) (b c : Band) (i j : ℕ) → HasBand r b → HasBand r c → band_place b < band_place c
    → i < block_count tile s r b → number_in_component tile s r b i < number_in_component tile s r c j
band_first tile s r b c i j there later lt some = omega (arith, band_before tile s r b c there later lt)

-- the components before a later one hold all blocks of an earlier one
components_grow : (f : CompShape → ℕ) (xs : List CompShape) (m n : ℕ) → m < n → n ≤ length xs
    → sum_by f (take m xs) + f (get_or xs m no_shape) ≤ sum_by f (take n xs)
components_grow f xs m n lt le =
    let next : sum_by f (take (m + 1) xs) ≡ sum_by f (take m xs) + f (get_or xs m no_shape) = sum_by_more f xs m no_shape (omega arith) in
    let part : sum_by f (take (m + 1) (take n xs)) ≤ sum_by f (take n xs) = sum_by-take-le f (take n xs) (m + 1) in
    let same : take (m + 1) (take n xs) ≡ take (m + 1) xs = take-take (m + 1) n xs (omega arith) in
    let part' : sum_by f (take (m + 1) xs) ≤ sum_by f (take n xs) = rw same at part in
    omega arith

later_band : (g : Geometry) (a b : BlockName) → HasBlock g b
    → (band_place a.band < band_place b.band) ⊎ ((a.band ≡ b.band) × (a.index < b.index))
    → HasBlock g (record a { comp = b.comp; res = b.res }) → number_in_tile g (record a { comp = b.comp; res = b.res }) < number_in_tile g b
unfolding number_in_tile
later_band g a b hb before ha = elim before [
  | inl earlier ↦ omega (arith, band_first (rect_of_tile g) (shape_of g b.comp) b.res a.band b.band a.index b.index ha.band hb.band earlier ha.index)
  | inr same ↦
      let e : blocks_before_band (rect_of_tile g) (shape_of g b.comp) b.res a.band ≡ blocks_before_band (rect_of_tile g) (shape_of g b.comp) b.res b.band
      = ap (λ n. blocks_before_band (rect_of_tile g) (shape_of g b.comp) b.res n) same.0 in
      omega (arith, e, same.1)
]

later_resolution : (g : Geometry) (a b : BlockName) → HasBlock g b
    → (a.res < b.res) ⊎ ((a.res ≡ b.res) × ((band_place a.band < band_place b.band) ⊎ ((a.band ≡ b.band) × (a.index < b.index))))
    → HasBlock g (record a { comp = b.comp }) → number_in_tile g (record a { comp = b.comp }) < number_in_tile g b
unfolding number_in_tile
later_resolution g a b hb before ha = elim before [
  | inl earlier ↦ omega (arith, resolution_first (rect_of_tile g) (shape_of g b.comp) a.res b.res a.band b.band a.index b.index earlier ha.band ha.index)
  | inr same ↦
      let P : ℕ → Type 0 = λ r. HasBlock g (record a { comp = b.comp; res = r })
      → number_in_tile g (record a { comp = b.comp; res = r }) < number_in_tile g b in
      subst P (sym same.0) (later_band g a b hb same.1) (record { tile = ha.tile; resolution = ha.resolution; band = ha.band; index = ha.index })
]

pub number_in_tile_grows : (g : Geometry) (a b : BlockName) → HasBlock g a → HasBlock g b → ComesBefore a b → number_in_tile g a < number_in_tile g b
unfolding number_in_tile
number_in_tile_grows g a b ha hb before = elim before [
  | inl earlier ↦
      let inner = in_component (rect_of_tile g) (shape_of g a.comp) a.res a.band a.index ha.resolution.level ha.band ha.index in
      let outer = components_grow (component_blocks (rect_of_tile g)) g.shapes a.comp b.comp earlier (omega (arith, hb.resolution.component)) in
      omega (arith, inner, outer)
  | inr same ↦
      let P : ℕ → Type 0 = λ c. HasBlock g (record a { comp = c }) → number_in_tile g (record a { comp = c }) < number_in_tile g b in
      let h : HasBlock g (record a { comp = a.comp }) = record { tile = ha.tile; resolution = ha.resolution; band = ha.band; index = ha.index } in
      subst P (sym same.0) (later_resolution g a b hb same.1) h
]

-- over the codestream
pub block_number_below : (c : Canvas) (shapes : ℕ → List CompShape) (n : BlockName) → IsBlock c shapes n → block_number c shapes n < blocks_of_all c shapes
unfolding block_number
block_number_below c shapes n h =
    let inner = number_in_tile_below (geometry_of c shapes n.tile) n h.1 in
    let outer = sum_below_more (λ t. tile_blocks (tile_rect c t) (shapes t)) n.tile (tile_count c) h.0 in
    omega (arith, inner, outer)

pub block_number_grows : (c : Canvas) (shapes : ℕ → List CompShape) (a b : BlockName) → IsBlock c shapes a → IsBlock c shapes b
    → (a.tile < b.tile) ⊎ ((a.tile ≡ b.tile) × ComesBefore a b) → block_number c shapes a < block_number c shapes b
unfolding block_number
block_number_grows c shapes a b ha hb before = elim before [
  | inl earlier ↦
      let inner = number_in_tile_below (geometry_of c shapes a.tile) a ha.1 in
      let outer = sum_below_more (λ t. tile_blocks (tile_rect c t) (shapes t)) a.tile b.tile earlier in
      omega (arith, inner, outer)
  | inr same ↦
      let P : ℕ → Type 0 = λ t. HasBlock (geometry_of c shapes t) b in
      let there : HasBlock (geometry_of c shapes a.tile) b = subst P (sym same.0) hb.1 in
      let inner = number_in_tile_grows (geometry_of c shapes a.tile) a b ha.1 there same.1 in
      let e : blocks_below c shapes a.tile + number_in_tile (geometry_of c shapes a.tile) b ≡ blocks_below c shapes b.tile + number_in_tile (geometry_of c shapes b.tile) b
      = ap (λ t. blocks_below c shapes t + number_in_tile (geometry_of c shapes t) b) same.0 in
      omega (arith, inner, e)
]

-- each number below a sum up to n falls into one of its terms
pub sum_below_split : (f : ℕ → ℕ) (n k : ℕ) → k < sum_below f n → (t : ℕ) × (m : ℕ) × ((t < n) × (m < f t) × (k ≡ sum_below f t + m))
sum_below_split f zero k lt = absurd (omega arith)
sum_below_split f (suc n) k lt = elim (cases_lt k (sum_below f n)) [
  | inl before ↦
      let part = sum_below_split f n k before in
      (part.0, part.1, (omega (arith, part.2.0), part.2.1, part.2.2))
  | inr after ↦ (n, k - sum_below f n, (omega arith, omega arith, omega arith))
]

-- the component, the band and the place of a number
pub component_split : (f : CompShape → ℕ) (xs : List CompShape) (k : ℕ) → k < sum_by f xs
    → (c : ℕ) × (m : ℕ) × ((c < length xs) × (m < f (get_or xs c no_shape)) × (k ≡ sum_by f (take c xs) + m))
component_split f xs k lt =
    let whole : sum_by f (take (length xs) xs) ≡ sum_by f xs = ap (λ ys. sum_by f ys) (take-length xs) in
    let places : sum_by f (take (length xs) xs) ≡ sum_below (λ c. f (get_or xs c no_shape)) (length xs) = front_sum f xs no_shape (length xs) (omega arith) in
    let part = sum_below_split (λ c. f (get_or xs c no_shape)) (length xs) k (omega arith) in
    let back = front_sum f xs no_shape part.0 (omega (arith, part.2.0)) in
    (part.0, part.1, (part.2.0, part.2.1, omega (arith, part.2.2, back)))

high_split : (tile : Rect) (s : CompShape) (r k : ℕ) → 0 < r → k < resolution_blocks tile s r
    → (b : Band) × (i : ℕ) × (HasBand r b × (i < block_count tile s r b) × (k ≡ blocks_before_band tile s r b + i))
high_split tile s r k some lt =
    let whole = resolution_high tile s r some in
    elim (cases_lt k (block_count tile s r HL)) [
      | inl first ↦ (HL, k, (some, first, omega arith))
      | inr after ↦ elim (cases_lt k (block_count tile s r HL + block_count tile s r LH)) [
        | inl second ↦ (LH, k - block_count tile s r HL, (some, omega arith, omega arith))
        | inr last ↦ (HH, k - (block_count tile s r HL + block_count tile s r LH), (some, omega (arith, whole), omega arith))
      ]
    ]

band_split : (tile : Rect) (s : CompShape) (r k : ℕ) → k < resolution_blocks tile s r
    → (b : Band) × (i : ℕ) × (HasBand r b × (i < block_count tile s r b) × (k ≡ blocks_before_band tile s r b + i))
band_split tile s r k lt = elim (cases_lt 0 r) [
  | inl some ↦ high_split tile s r k some lt
  | inr none ↦
      let zero_res : r ≡ 0 = omega arith in
      (LL, k, (zero_res, omega (arith, resolution_low tile s r zero_res), omega arith))
]

-- each number below the count of a tile's blocks is that of one of them
pub tile_split : (g : Geometry) (k : ℕ) → k < tile_blocks (rect_of_tile g) g.shapes → (n : BlockName) × (HasBlock g n × (number_in_tile g n ≡ k))
unfolding number_in_tile component_blocks
tile_split g k lt =
    let comp = component_split (component_blocks (rect_of_tile g)) g.shapes k lt in
    let res = sum_below_split (resolution_blocks (rect_of_tile g) (shape_of g comp.0)) ((shape_of g comp.0).levels + 1) comp.1 comp.2.1 in
    let band = band_split (rect_of_tile g) (shape_of g comp.0) res.0 res.1 res.2.1 in (
      record { tile = g.tile; comp = comp.0; res = res.0; band = band.0; index = band.1 },
      (
        record { tile = refl; resolution = record { component = comp.2.0; level = omega (arith, res.2.0) }; band = band.2.0; index = band.2.1 },
        omega (arith, comp.2.2, res.2.2, band.2.2),
      ),
    )

pub block_number_taken : (c : Canvas) (shapes : ℕ → List CompShape) (k : ℕ) → k < blocks_of_all c shapes
    → (n : BlockName) × (IsBlock c shapes n × (block_number c shapes n ≡ k))
unfolding block_number
block_number_taken c shapes k lt =
    let part = sum_below_split (λ t. tile_blocks (tile_rect c t) (shapes t)) (tile_count c) k lt in
    let inner = tile_split (geometry_of c shapes part.0) part.1 part.2.1 in
    let P : ℕ → Type 0 = λ t. HasBlock (geometry_of c shapes t) inner.0 in
    let there : HasBlock (geometry_of c shapes inner.0.tile) inner.0 = subst P (sym inner.1.0.tile) inner.1.0 in
    let Q : ℕ → Type 0 = λ t. blocks_below c shapes t + number_in_tile (geometry_of c shapes t) inner.0 ≡ k in
    let number : blocks_below c shapes part.0 + number_in_tile (geometry_of c shapes part.0) inner.0 ≡ k = omega (arith, inner.1.1, part.2.2) in
    let R : ℕ → Type 0 = λ t. t < tile_count c in
    (inner.0, ((subst R (sym inner.1.0.tile) part.2.0, there), subst Q (sym inner.1.0.tile) number))
