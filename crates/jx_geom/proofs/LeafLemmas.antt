-- The blocks of a precinct, its leaves: each is a block of the tile, and each block of the tile is a leaf of one precinct alone.
use Rattle.std.proofs.Common.{◌≡◌, ℕ, ◌+◌, ◌-◌, ◌*◌, ◌≤◌, ◌<◌, List, [], ◌∷◌, inl, inr, ◌∙◌, ap, sym, subst, refl, arith}
use Rattle.std.specs.List.{Contains}
use Rattle.std.proofs.lemmas.Bool.{cases_lt}
use Rattle.std.proofs.lemmas.Bool.Decides.{nat_tests}
use Rattle.std.proofs.lemmas.List.Sums.{get_or-le-sum_by}
use Rattle.std.proofs.lemmas.Nat.{mul-le}
use Rattle.jx_base.specs.declared.names.Band.{Band}
use Rattle.jx_base.specs.declared.names.Band.TheVariants.{LL, HL, LH, HH}
use Rattle.jx_base.specs.declared.names.BlockName.{BlockName}
use Rattle.jx_base.specs.declared.names.Rect.{Rect}
use Rattle.jx_base.specs.Bands.{bands_at}
use Rattle.jx_base.specs.Places.{InRect, length_of, size_of, column_at, row_at, number_at}
use Rattle.jx_base.proofs.Lists.{contains_cons, contains_head, contains_tail, contains_none}
use Rattle.jx_base.proofs.Raster.{raster_in, number_below, number_column, number_row, raster_one}
use Rattle.jx_base.proofs.Sums.{sum_below_more}
use Rattle.jx_geom.specs.Counts.{tile_blocks, component_blocks, resolution_blocks}
use Rattle.jx_geom.specs.Geometry.{Geometry, GeometryInRange, HasBlock, HasResolution, no_shape, shape_of, rect_of_tile, blocks_in}
use Rattle.jx_geom.specs.Numbering.{band_place, number_in_tile}
use Rattle.jx_geom.specs.Precincts.{HasPrecinct, IsLeaf, cells_at, leaves, leaves_in, leaf_index, name_from, leaf_name, leaf_number}
use Rattle.jx_geom.specs.Ranges.{HasBand}
use Rattle.jx_geom.proofs.CountLemmas.{resolution_low, resolution_high, blocks_limited}
use Rattle.jx_geom.proofs.LawLemmas.{precinct_blocks_to, block_cell_from, block_in_one_precinct}
use Rattle.jx_geom.proofs.NumberLemmas.{number_in_tile_below, number_in_tile_grows}
use Rattle.jx_base.specs.Limits.{most_blocks}

pub bands_low : (r : ℕ) → r ≡ 0 → bands_at r ≡ LL ∷ []
bands_low r e = grind (arith, nat_tests)

pub bands_high : (r : ℕ) → 0 < r → bands_at r ≡ HL ∷ LH ∷ HH ∷ []
bands_high r some = grind (arith, nat_tests)

-- the name of a block of the first band, and of a later one
abbrev pub named : Geometry → ℕ → ℕ → Band → ℕ → BlockName
named g c r b i = record { tile = g.tile; comp = c; res = r; band = b; index = i }

pub name_here : (g : Geometry) (c r k : ℕ) (b : Band) (bands : List Band) (j : ℕ) → j < size_of (cells_at g c r k b)
    → name_from g c r k (b ∷ bands) j ≡ named g c r b (leaf_index g c r k b j)
name_here g c r k b bands j lt = grind (arith, nat_tests)

pub name_later : (g : Geometry) (c r k : ℕ) (b : Band) (bands : List Band) (j : ℕ) → size_of (cells_at g c r k b) ≤ j
    → name_from g c r k (b ∷ bands) j ≡ name_from g c r k bands (j - size_of (cells_at g c r k b))
name_later g c r k b bands j ge = grind (arith, nat_tests)

-- the resolution has each of these bands
abbrev pub Have : ℕ → List Band → Type 0
Have r [] = Unit {0}
Have r (b ∷ bands) = HasBand r b × Have r bands

pub bands_have : (r : ℕ) → Have r (bands_at r)
bands_have r = elim (cases_lt 0 r) [
  | inl some ↦
      let P : List Band → Type 0 = λ bands. Have r bands in
      subst P (sym (bands_high r some)) (some, (some, (some, tt)))
  | inr none ↦
      let low : r ≡ 0 = omega arith in
      let P : List Band → Type 0 = λ bands. Have r bands in
      subst P (sym (bands_low r low)) (low, tt)
]

-- a cell of a precinct's part of a band is one of the band's
pub cell_in_band : (g : Geometry) (c r k : ℕ) (b : Band) (u v : ℕ) → GeometryInRange g → HasPrecinct g c r k
    → InRect (cells_at g c r k b) u v → InRect (blocks_in g c r b) u v
cell_in_band g c r k b u v h there i =
    let shape = h.shapes c there.resolution.component in
    let place = precinct_blocks_to (rect_of_tile g) (shape_of g c) r b k u v shape i in
    block_cell_from (rect_of_tile g) (shape_of g c) r b u v place.0 place.1 shape place.2.0.place place.2.1

-- a block of a precinct
pub record IsLeafAt (g : Geometry) (c r k : ℕ) (n : BlockName) : Type 0 where
  pub there : HasBlock g n
  pub comp : n.comp ≡ c
  pub res : n.res ≡ r
  pub band : HasBand r n.band
  pub index : n.index < size_of (blocks_in g c r n.band)
  pub cell : InRect (cells_at g c r k n.band) (column_at (blocks_in g c r n.band) n.index) (row_at (blocks_in g c r n.band) n.index)

first_leaf : (g : Geometry) (c r k : ℕ) (b : Band) (j : ℕ) → GeometryInRange g → HasPrecinct g c r k → HasBand r b
    → j < size_of (cells_at g c r k b) → IsLeafAt g c r k (named g c r b (leaf_index g c r k b j))
first_leaf g c r k b j h there has lt =
    let mine : InRect (cells_at g c r k b) (column_at (cells_at g c r k b) j) (row_at (cells_at g c r k b) j) = raster_in (cells_at g c r k b) j lt in
    let cell = cell_in_band g c r k b (column_at (cells_at g c r k b) j) (row_at (cells_at g c r k b) j) h there mine in
    let column = number_column (blocks_in g c r b) (column_at (cells_at g c r k b) j) (row_at (cells_at g c r k b) j) cell in
    let row = number_row (blocks_in g c r b) (column_at (cells_at g c r k b) j) (row_at (cells_at g c r k b) j) cell in
    let below = number_below (blocks_in g c r b) (column_at (cells_at g c r k b) j) (row_at (cells_at g c r k b) j) cell in
    let P : ℕ → Type 0 = λ u. InRect (cells_at g c r k b) u (row_at (cells_at g c r k b) j) in
    let Q : ℕ → Type 0 = λ v. InRect (cells_at g c r k b) (column_at (blocks_in g c r b) (leaf_index g c r k b j)) v in
    record {
      there = record { tile = refl; resolution = there.resolution; band = has; index = below };
      comp = refl;
      res = refl;
      band = has;
      index = below;
      cell = subst Q (sym row) (subst P (sym column) mine);
    }

leaf_in : (g : Geometry) (c r k : ℕ) (bands : List Band) (j : ℕ) → GeometryInRange g → HasPrecinct g c r k → Have r bands
    → j < leaves_in g c r k bands → IsLeafAt g c r k (name_from g c r k bands j)
leaf_in g c r k [] j h there have lt = absurd (omega arith)
leaf_in g c r k (b ∷ bands) j h there have lt = elim (cases_lt j (size_of (cells_at g c r k b))) [
  | inl here ↦
      let P : BlockName → Type 0 = λ n. IsLeafAt g c r k n in
      subst P (sym (name_here g c r k b bands j here)) (first_leaf g c r k b j h there have.0 here)
  | inr later ↦
      let P : BlockName → Type 0 = λ n. IsLeafAt g c r k n in
      subst P (sym (name_later g c r k b bands j later))
      (leaf_in g c r k bands (j - size_of (cells_at g c r k b)) h there have.1 (omega arith))
]

pub leaf_of : (g : Geometry) (c r k j : ℕ) → GeometryInRange g → HasPrecinct g c r k → j < leaves g c r k → IsLeafAt g c r k (leaf_name g c r k j)
unfolding leaf_name
leaf_of g c r k j h there lt = leaf_in g c r k (bands_at r) j h there (bands_have r) lt

pub leaf_there : (g : Geometry) (c r k j : ℕ) → GeometryInRange g → HasPrecinct g c r k → j < leaves g c r k → HasBlock g (leaf_name g c r k j)
leaf_there g c r k j h there lt = (leaf_of g c r k j h there lt).there

pub leaf_is : (g : Geometry) (c r k j : ℕ) → leaf_number g c r k j ≡ number_in_tile g (leaf_name g c r k j)
unfolding leaf_number
leaf_is g c r k j = refl

pub leaf_below : (g : Geometry) (c r k j : ℕ) → GeometryInRange g → HasPrecinct g c r k → j < leaves g c r k
    → leaf_number g c r k j < tile_blocks (rect_of_tile g) g.shapes
leaf_below g c r k j h there lt =
    rw (leaf_is g c r k j) (number_in_tile_below g (leaf_name g c r k j) (leaf_there g c r k j h there lt))

-- two blocks of one number are one
same_band : (a b : Band) → band_place a ≡ band_place b → a ≡ b
same_band LL LL e = refl
same_band LL HL e = absurd (omega arith)
same_band LL LH e = absurd (omega arith)
same_band LL HH e = absurd (omega arith)
same_band HL LL e = absurd (omega arith)
same_band HL HL e = refl
same_band HL LH e = absurd (omega arith)
same_band HL HH e = absurd (omega arith)
same_band LH LL e = absurd (omega arith)
same_band LH HL e = absurd (omega arith)
same_band LH LH e = refl
same_band LH HH e = absurd (omega arith)
same_band HH LL e = absurd (omega arith)
same_band HH HL e = absurd (omega arith)
same_band HH LH e = absurd (omega arith)
same_band HH HH e = refl

-- numbers of which neither is below the other
neither : (m n : ℕ) → (m < n → ⊥) → (n < m → ⊥) → m ≡ n
neither m n less more = elim (cases_lt m n) [
  | inl lt ↦ absurd (less lt)
  | inr ge ↦ elim (cases_lt n m) [
    | inl gt ↦ absurd (more gt)
    | inr le ↦ omega arith
  ]
]

pub number_once : (g : Geometry) (a b : BlockName) → HasBlock g a → HasBlock g b → number_in_tile g a ≡ number_in_tile g b
    → (a.comp ≡ b.comp) × (a.res ≡ b.res) × (a.band ≡ b.band) × (a.index ≡ b.index)
number_once g a b ha hb e =
    let comp = neither a.comp b.comp (λ lt. omega (arith, number_in_tile_grows g a b ha hb (inl lt)))
    (λ lt. omega (arith, number_in_tile_grows g b a hb ha (inl lt))) in
    let res = neither a.res b.res (λ lt. omega (arith, number_in_tile_grows g a b ha hb (inr (comp, inl lt))))
    (λ lt. omega (arith, number_in_tile_grows g b a hb ha (inr (sym comp, inl lt)))) in
    let place = neither (band_place a.band) (band_place b.band) (λ lt. omega (arith, number_in_tile_grows g a b ha hb (inr (comp, inr (res, inl lt)))))
    (λ lt. omega (arith, number_in_tile_grows g b a hb ha (inr (sym comp, inr (sym res, inl lt))))) in
    let band = same_band a.band b.band place in
    let index = neither a.index b.index (λ lt. omega (arith, number_in_tile_grows g a b ha hb (inr (comp, inr (res, inr (band, lt))))))
    (λ lt. omega (arith, number_in_tile_grows g b a hb ha (inr (sym comp, inr (sym res, inr (sym band, lt)))))) in
    (comp, res, band, index)

-- bands that stand in their order, none below a place
abbrev Ascend : ℕ → List Band → Type 0
Ascend p [] = Unit {0}
Ascend p (b ∷ bands) = (p ≤ band_place b) × Ascend (band_place b + 1) bands

bands_ascend : (r : ℕ) → Ascend 0 (bands_at r)
bands_ascend r = elim (cases_lt 0 r) [
  | inl some ↦
      let P : List Band → Type 0 = λ bands. Ascend 0 bands in
      subst P (sym (bands_high r some)) (omega arith, (omega arith, (omega arith, tt)))
  | inr none ↦
      let low : r ≡ 0 = omega arith in
      let P : List Band → Type 0 = λ bands. Ascend 0 bands in
      subst P (sym (bands_low r low)) (omega arith, tt)
]

weaker : (p q : ℕ) (bands : List Band) → q ≤ p → Ascend p bands → Ascend q bands
weaker p q [] le a = tt
weaker p q (b ∷ bands) le a = (omega (arith, a.0), a.1)

place_from : (g : Geometry) (c r k p : ℕ) (bands : List Band) (j : ℕ) → Ascend p bands → j < leaves_in g c r k bands
    → p ≤ band_place (name_from g c r k bands j).band
place_from g c r k p [] j a lt = absurd (omega arith)
place_from g c r k p (b ∷ bands) j a lt = elim (cases_lt j (size_of (cells_at g c r k b))) [
  | inl here ↦
      let P : BlockName → Type 0 = λ n. p ≤ band_place n.band in
      subst P (sym (name_here g c r k b bands j here)) a.0
  | inr later ↦
      let P : BlockName → Type 0 = λ n. p ≤ band_place n.band in
      subst P (sym (name_later g c r k b bands j later))
      (place_from g c r k p bands (j - size_of (cells_at g c r k b)) (weaker (band_place b + 1) p bands (omega (arith, a.0)) a.1) (omega arith))
]

-- a block of the first band isn't one of a later
not_later : (g : Geometry) (c r k : ℕ) (b : Band) (bands : List Band) (i j : ℕ) → Ascend (band_place b + 1) bands
    → i < size_of (cells_at g c r k b) → size_of (cells_at g c r k b) ≤ j → j < size_of (cells_at g c r k b) + leaves_in g c r k bands
    → (name_from g c r k (b ∷ bands) i).band ≡ (name_from g c r k (b ∷ bands) j).band → ⊥
not_later g c r k b bands i j a here later lt e =
    let first : (name_from g c r k (b ∷ bands) i).band ≡ b = ap (λ (n : BlockName). n.band) (name_here g c r k b bands i here) in
    let second : (name_from g c r k (b ∷ bands) j).band ≡ (name_from g c r k bands (j - size_of (cells_at g c r k b))).band =
    ap (λ (n : BlockName). n.band) (name_later g c r k b bands j later) in
    let far : band_place b + 1 ≤ band_place (name_from g c r k bands (j - size_of (cells_at g c r k b))).band =
    place_from g c r k (band_place b + 1) bands (j - size_of (cells_at g c r k b)) a (omega arith) in
    let same : band_place b ≡ band_place (name_from g c r k bands (j - size_of (cells_at g c r k b))).band =
    ap (λ (x : Band). band_place x) (sym first ∙ e ∙ second) in
    omega arith

-- two cells of one number in a band are one
same_cell : (g : Geometry) (c r k : ℕ) (b : Band) (i j : ℕ) → GeometryInRange g → HasPrecinct g c r k
    → i < size_of (cells_at g c r k b) → j < size_of (cells_at g c r k b) → leaf_index g c r k b i ≡ leaf_index g c r k b j → i ≡ j
same_cell g c r k b i j h there hi hj e =
    let ci = cell_in_band g c r k b (column_at (cells_at g c r k b) i) (row_at (cells_at g c r k b) i) h there (raster_in (cells_at g c r k b) i hi) in
    let cj = cell_in_band g c r k b (column_at (cells_at g c r k b) j) (row_at (cells_at g c r k b) j) h there (raster_in (cells_at g c r k b) j hj) in
    let column = sym (number_column (blocks_in g c r b) (column_at (cells_at g c r k b) i) (row_at (cells_at g c r k b) i) ci)
    ∙ ap (λ n. column_at (blocks_in g c r b) n) e
    ∙ number_column (blocks_in g c r b) (column_at (cells_at g c r k b) j) (row_at (cells_at g c r k b) j) cj in
    let row = sym (number_row (blocks_in g c r b) (column_at (cells_at g c r k b) i) (row_at (cells_at g c r k b) i) ci)
    ∙ ap (λ n. row_at (blocks_in g c r b) n) e
    ∙ number_row (blocks_in g c r b) (column_at (cells_at g c r k b) j) (row_at (cells_at g c r k b) j) cj in
    raster_one (cells_at g c r k b) i j column row

name_once : (g : Geometry) (c r k p : ℕ) (bands : List Band) (i j : ℕ) → GeometryInRange g → HasPrecinct g c r k → Ascend p bands
    → i < leaves_in g c r k bands → j < leaves_in g c r k bands
    → (name_from g c r k bands i).band ≡ (name_from g c r k bands j).band → (name_from g c r k bands i).index ≡ (name_from g c r k bands j).index → i ≡ j
name_once g c r k p [] i j h there a hi hj band index = absurd (omega arith)
name_once g c r k p (b ∷ bands) i j h there a hi hj band index = elim (cases_lt i (size_of (cells_at g c r k b))) [
  | inl first ↦ elim (cases_lt j (size_of (cells_at g c r k b))) [
    | inl second ↦
        let left : (name_from g c r k (b ∷ bands) i).index ≡ leaf_index g c r k b i = ap (λ (n : BlockName). n.index) (name_here g c r k b bands i first) in
        let right : (name_from g c r k (b ∷ bands) j).index ≡ leaf_index g c r k b j = ap (λ (n : BlockName). n.index) (name_here g c r k b bands j second) in
        same_cell g c r k b i j h there first second (sym left ∙ index ∙ right)
    | inr after ↦ absurd (not_later g c r k b bands i j a.1 first after hj band)
  ]
  | inr later ↦ elim (cases_lt j (size_of (cells_at g c r k b))) [
    | inl second ↦ absurd (not_later g c r k b bands j i a.1 second later hi (sym band))
    | inr after ↦
        let left = name_later g c r k b bands i later in
        let right = name_later g c r k b bands j after in
        let rest = name_once g c r k (band_place b + 1) bands (i - size_of (cells_at g c r k b)) (j - size_of (cells_at g c r k b)) h there a.1 (omega arith) (omega arith)
        (sym (ap (λ (n : BlockName). n.band) left) ∙ band ∙ ap (λ (n : BlockName). n.band) right)
        (sym (ap (λ (n : BlockName). n.index) left) ∙ index ∙ ap (λ (n : BlockName). n.index) right) in
        omega arith
  ]
]

-- two precincts of a resolution that have one block are one
one_precinct : (g : Geometry) (c r k k' : ℕ) (a b : BlockName) → GeometryInRange g → HasPrecinct g c r k → HasPrecinct g c r k'
    → IsLeafAt g c r k a → IsLeafAt g c r k' b → a.band ≡ b.band → a.index ≡ b.index → k ≡ k'
one_precinct g c r k k' a b h p p' la lb band index =
    let one = block_in_one_precinct (rect_of_tile g) (shape_of g c) r a.band a.index (h.shapes c p.resolution.component) p.resolution.level la.band la.index in
    let P : Band → Type 0 = λ x. InRect (cells_at g c r k' x) (column_at (blocks_in g c r x) b.index) (row_at (blocks_in g c r x) b.index) in
    let Q : ℕ → Type 0 = λ i. InRect (cells_at g c r k' a.band) (column_at (blocks_in g c r a.band) i) (row_at (blocks_in g c r a.band) i) in
    let cell : InRect (cells_at g c r k' a.band) (column_at (blocks_in g c r a.band) a.index) (row_at (blocks_in g c r a.band) a.index) =
    subst Q (sym index) (subst P (sym band) lb.cell) in
    one.only k (p.precinct, la.cell) ∙ sym (one.only k' (p'.precinct, cell))

once_in_precinct : (g : Geometry) (c r k i j : ℕ) → GeometryInRange g → HasPrecinct g c r k → i < leaves g c r k → j < leaves g c r k
    → (leaf_name g c r k i).band ≡ (leaf_name g c r k j).band → (leaf_name g c r k i).index ≡ (leaf_name g c r k j).index → i ≡ j
unfolding leaf_name
once_in_precinct g c r k i j h there hi hj band index = name_once g c r k 0 (bands_at r) i j h there (bands_ascend r) hi hj band index

-- a precinct of the resolution, and a block of it that is named as another
record IsNamed (g : Geometry) (a : BlockName) (c r k j : ℕ) : Type 0 where
  precinct : HasPrecinct g c r k
  below : j < leaves g c r k
  band : a.band ≡ (leaf_name g c r k j).band
  index : a.index ≡ (leaf_name g c r k j).index

once_in_resolution : (g : Geometry) (c r k j k' j' : ℕ) → GeometryInRange g → HasPrecinct g c r k → j < leaves g c r k
    → IsNamed g (leaf_name g c r k j) c r k' j' → (k ≡ k') × (j ≡ j')
once_in_resolution g c r k j k' j' h p lt n =
    let same = one_precinct g c r k k' (leaf_name g c r k j) (leaf_name g c r k' j') h p n.precinct (leaf_of g c r k j h p lt)
    (leaf_of g c r k' j' h n.precinct n.below) n.band n.index in
    let P : ℕ → Type 0 = λ m. IsNamed g (leaf_name g c r k j) c r m j' in
    let m : IsNamed g (leaf_name g c r k j) c r k j' = subst P (sym same) n in
    (same, once_in_precinct g c r k j j' h p lt m.below m.band m.index)

pub leaf_once : (g : Geometry) (c r k j c' r' k' j' : ℕ) → GeometryInRange g → HasPrecinct g c r k → j < leaves g c r k
    → HasPrecinct g c' r' k' → j' < leaves g c' r' k' → leaf_number g c r k j ≡ leaf_number g c' r' k' j'
    → (c ≡ c') × (r ≡ r') × (k ≡ k') × (j ≡ j')
leaf_once g c r k j c' r' k' j' h p lt p' lt' e =
    let la = leaf_of g c r k j h p lt in
    let lb = leaf_of g c' r' k' j' h p' lt' in
    let same = number_once g (leaf_name g c r k j) (leaf_name g c' r' k' j') la.there lb.there (sym (leaf_is g c r k j) ∙ e ∙ leaf_is g c' r' k' j') in
    let comp : c ≡ c' = sym la.comp ∙ same.0 ∙ lb.comp in
    let res : r ≡ r' = sym la.res ∙ same.1 ∙ lb.res in
    let n : IsNamed g (leaf_name g c r k j) c' r' k' j' = record { precinct = p'; below = lt'; band = same.2; index = same.3 } in
    let P : ℕ → Type 0 = λ x. IsNamed g (leaf_name g c r k j) x r' k' j' in
    let Q : ℕ → Type 0 = λ x. IsNamed g (leaf_name g c r k j) c x k' j' in
    let inner = once_in_resolution g c r k j k' j' h p lt (subst Q (sym res) (subst P (sym comp) n)) in
    (comp, res, inner.0, inner.1)

-- a rect that lies in another has no more places
corners : (a b : Rect) → 0 < length_of a.x → 0 < length_of a.y → ((u v : ℕ) → InRect a u v → InRect b u v) → size_of a ≤ size_of b
corners a b wide high inside =
    let first = inside a.x.low a.y.low
    (record { across = record { from = omega arith; below = omega arith }; down = record { from = omega arith; below = omega arith } }) in
    let last = inside (a.x.high - 1) (a.y.high - 1)
    (record { across = record { from = omega arith; below = omega arith }; down = record { from = omega arith; below = omega arith } }) in
    mul-le (length_of a.x) (length_of a.y) (length_of b.x) (length_of b.y)
    (omega (arith, first.across.from, last.across.below)) (omega (arith, first.down.from, last.down.below))

pub fewer_places : (a b : Rect) → ((u v : ℕ) → InRect a u v → InRect b u v) → size_of a ≤ size_of b
fewer_places a b inside = elim (cases_lt 0 (length_of a.x)) [
  | inl wide ↦ elim (cases_lt 0 (length_of a.y)) [
    | inl high ↦ corners a b wide high inside
    | inr flat ↦
        let none : length_of a.y ≡ 0 = omega arith in
        let product : size_of a ≡ length_of a.x * 0 = ap (λ n. length_of a.x * n) none in
        omega arith
  ]
  | inr narrow ↦
      let none : length_of a.x ≡ 0 = omega arith in
      let product : size_of a ≡ 0 * length_of a.y = ap (λ n. n * length_of a.y) none in
      omega arith
]

pub cells_fit : (g : Geometry) (c r k : ℕ) (b : Band) → GeometryInRange g → HasPrecinct g c r k → size_of (cells_at g c r k b) ≤ size_of (blocks_in g c r b)
cells_fit g c r k b h there = fewer_places (cells_at g c r k b) (blocks_in g c r b) (λ u v i. cell_in_band g c r k b u v h there i)

pub cells_small : (g : Geometry) (c r k : ℕ) (b : Band) → GeometryInRange g → HasPrecinct g c r k → HasBand r b → size_of (cells_at g c r k b) ≤ most_blocks
cells_small g c r k b h there has = omega (arith, cells_fit g c r k b h there, blocks_limited g c r b h there.resolution has)

-- a precinct has no more blocks than its resolution
pub leaves_low : (g : Geometry) (c r k : ℕ) → r ≡ 0 → leaves g c r k ≡ size_of (cells_at g c r k LL) + 0
leaves_low g c r k e = ap (λ (bands : List Band). leaves_in g c r k bands) (bands_low r e)

pub leaves_high : (g : Geometry) (c r k : ℕ) → 0 < r
    → leaves g c r k ≡ size_of (cells_at g c r k HL) + (size_of (cells_at g c r k LH) + (size_of (cells_at g c r k HH) + 0))
leaves_high g c r k some = ap (λ (bands : List Band). leaves_in g c r k bands) (bands_high r some)

leaves_within : (g : Geometry) (c r k : ℕ) → GeometryInRange g → HasPrecinct g c r k → leaves g c r k ≤ resolution_blocks (rect_of_tile g) (shape_of g c) r
leaves_within g c r k h there = elim (cases_lt 0 r) [
  | inl some ↦
      omega (
        arith,
        leaves_high g c r k some,
        resolution_high (rect_of_tile g) (shape_of g c) r some,
        cells_fit g c r k HL h there,
        cells_fit g c r k LH h there,
        cells_fit g c r k HH h there,
      )
  | inr none ↦
      let low : r ≡ 0 = omega arith in
      omega (arith, leaves_low g c r k low, resolution_low (rect_of_tile g) (shape_of g c) r low, cells_fit g c r k LL h there)
]

pub resolution_limited : (g : Geometry) (c r : ℕ) → GeometryInRange g → HasResolution g c r → resolution_blocks (rect_of_tile g) (shape_of g c) r ≤ most_blocks
unfolding component_blocks
resolution_limited g c r h there =
    let inner = sum_below_more (resolution_blocks (rect_of_tile g) (shape_of g c)) r ((shape_of g c).levels + 1) (omega (arith, there.level)) in
    let outer = get_or-le-sum_by (component_blocks (rect_of_tile g)) g.shapes c no_shape there.component in
    omega (arith, inner, outer, h.limits.blocks)

pub leaves_limited : (g : Geometry) (c r k : ℕ) → GeometryInRange g → HasPrecinct g c r k → leaves g c r k ≤ most_blocks
leaves_limited g c r k h there = omega (arith, leaves_within g c r k h there, resolution_limited g c r h there.resolution)

-- back: each block of the tile is a leaf

-- the raster number of the place of a number
pub back_number : (r : Rect) (i : ℕ) → i < size_of r → number_at r (column_at r i) (row_at r i) ≡ i
back_number r i lt =
    let there = raster_in r i lt in
    raster_one r (number_at r (column_at r i) (row_at r i)) i (number_column r (column_at r i) (row_at r i) there) (number_row r (column_at r i) (row_at r i) there)

pub has_in : (r : ℕ) (b : Band) → HasBand r b → Contains (bands_at r) b
has_in r LL has =
    let P : List Band → Type 0 = λ bands. Contains bands LL in
    subst P (sym (bands_low r has)) (contains_head LL [])
has_in r HL has =
    let P : List Band → Type 0 = λ bands. Contains bands HL in
    subst P (sym (bands_high r has)) (contains_head HL (LH ∷ HH ∷ []))
has_in r LH has =
    let P : List Band → Type 0 = λ bands. Contains bands LH in
    subst P (sym (bands_high r has)) (contains_tail HL (LH ∷ HH ∷ []) LH (contains_head LH (HH ∷ [])))
has_in r HH has =
    let P : List Band → Type 0 = λ bands. Contains bands HH in
    subst P (sym (bands_high r has)) (contains_tail HL (LH ∷ HH ∷ []) HH (contains_tail LH (HH ∷ []) HH (contains_head HH [])))

-- a leaf of some bands with the name
record FoundLeaf (g : Geometry) (c r k : ℕ) (bands : List Band) (n : BlockName) : Type 0 where
  leaf : ℕ
  below : leaf < leaves_in g c r k bands
  name : name_from g c r k bands leaf ≡ n

found_here : (g : Geometry) (c r k : ℕ) (b x : Band) (bands : List Band) (j : ℕ) → b ≡ x → j < size_of (cells_at g c r k x)
    → FoundLeaf g c r k (b ∷ bands) (named g c r x (leaf_index g c r k x j))
found_here g c r k b x bands j e =
    let P : Band → Type 0 = λ x. j < size_of (cells_at g c r k x) → FoundLeaf g c r k (b ∷ bands) (named g c r x (leaf_index g c r k x j)) in
    subst P e (λ lt. record { leaf = j; below = omega arith; name = name_here g c r k b bands j lt })

found_later : (g : Geometry) (c r k : ℕ) (b : Band) (bands : List Band) (n : BlockName) → FoundLeaf g c r k bands n → FoundLeaf g c r k (b ∷ bands) n
found_later g c r k b bands n f =
    let back : size_of (cells_at g c r k b) + f.leaf - size_of (cells_at g c r k b) ≡ f.leaf = omega arith in
    record {
      leaf = size_of (cells_at g c r k b) + f.leaf;
      below = omega (arith, f.below);
      name = name_later g c r k b bands (size_of (cells_at g c r k b) + f.leaf) (omega arith)
          ∙ ap (λ m. name_from g c r k bands m) back ∙ f.name;
    }

found_in : (g : Geometry) (c r k : ℕ) (x : Band) (bands : List Band) (j : ℕ) → Contains bands x → j < size_of (cells_at g c r k x)
    → FoundLeaf g c r k bands (named g c r x (leaf_index g c r k x j))
found_in g c r k x [] j has lt = absurd (contains_none x has)
found_in g c r k x (b ∷ bands) j has lt = elim (contains_cons b bands x has) [
  | inl e ↦ found_here g c r k b x bands j e lt
  | inr rest ↦ found_later g c r k b bands (named g c r x (leaf_index g c r k x j)) (found_in g c r k x bands j rest lt)
]

-- the cell of a block that lies in a precinct, as a place in the precinct's part of the band
index_back : (g : Geometry) (c r k : ℕ) (b : Band) (i : ℕ) → i < size_of (blocks_in g c r b)
    → InRect (cells_at g c r k b) (column_at (blocks_in g c r b) i) (row_at (blocks_in g c r b) i)
    → leaf_index g c r k b (number_at (cells_at g c r k b) (column_at (blocks_in g c r b) i) (row_at (blocks_in g c r b) i)) ≡ i
index_back g c r k b i lt cell =
    let column = number_column (cells_at g c r k b) (column_at (blocks_in g c r b) i) (row_at (blocks_in g c r b) i) cell in
    let row = number_row (cells_at g c r k b) (column_at (blocks_in g c r b) i) (row_at (blocks_in g c r b) i) cell in
    ap (λ u. number_at (blocks_in g c r b) u (row_at (cells_at g c r k b) (number_at (cells_at g c r k b) (column_at (blocks_in g c r b) i) (row_at (blocks_in g c r b) i)))) column
    ∙ ap (λ v. number_at (blocks_in g c r b) (column_at (blocks_in g c r b) i) v) row
    ∙ back_number (blocks_in g c r b) i lt

-- in the precinct that has its cell
pub is_leaf_in : (g : Geometry) (n : BlockName) (k : ℕ) → GeometryInRange g → HasBlock g n → HasPrecinct g n.comp n.res k
    → InRect (cells_at g n.comp n.res k n.band) (column_at (blocks_in g n.comp n.res n.band) n.index) (row_at (blocks_in g n.comp n.res n.band) n.index)
    → (j : ℕ) × IsLeaf g k j n
unfolding leaf_name
is_leaf_in g n k h there precinct cell =
    let c : ℕ = n.comp in
    let place = number_at (cells_at g n.comp n.res k n.band) (column_at (blocks_in g n.comp n.res n.band) n.index) (row_at (blocks_in g n.comp n.res n.band) n.index) in
    let lt : place < size_of (cells_at g n.comp n.res k n.band) =
    number_below (cells_at g n.comp n.res k n.band) (column_at (blocks_in g n.comp n.res n.band) n.index) (row_at (blocks_in g n.comp n.res n.band) n.index) cell in
    let f = found_in g n.comp n.res k n.band (bands_at n.res) place (has_in n.res n.band there.band) lt in
    let index : leaf_index g n.comp n.res k n.band place ≡ n.index = index_back g n.comp n.res k n.band n.index there.index cell in
    let same : named g n.comp n.res n.band (leaf_index g n.comp n.res k n.band place) ≡ n =
    ap (λ i. named g n.comp n.res n.band i) index ∙ ap (λ t. record n { tile = t }) (sym there.tile) in
    (f.leaf, record { precinct = precinct; leaf = f.below; name = f.name ∙ same })

pub leaf_taken : (g : Geometry) (n : BlockName) → GeometryInRange g → HasBlock g n → (k : ℕ) × (j : ℕ) × IsLeaf g k j n
leaf_taken g n h there =
    let home = block_in_one_precinct (rect_of_tile g) (shape_of g n.comp) n.res n.band n.index (h.shapes n.comp there.resolution.component)
    there.resolution.level there.band there.index in
    let found = is_leaf_in g n home.number h there (record { resolution = there.resolution; precinct = home.holds.0 }) home.holds.1 in
    (home.number, found.0, found.1)
