-- The numbers of a precinct's blocks by a first number and a step for each band.
use Rattle.std.proofs.Common.{◌≡◌, ℕ, ◌+◌, ◌-◌, ◌*◌, ◌/◌, ◌%◌, ◌≤◌, ◌<◌, List, [], ◌∷◌, max, inl, inr, ◌∙◌, ap, sym, subst, arith, add-mul}
use Rattle.std.proofs.lemmas.Bool.{cases_lt}
use Rattle.std.proofs.lemmas.Bool.Decides.{nat_tests}
use Rattle.jx_base.specs.declared.names.Band.{Band}
use Rattle.jx_base.specs.declared.names.Band.TheVariants.{LL, HL, LH, HH}
use Rattle.jx_base.specs.declared.names.BlockName.{BlockName}
use Rattle.jx_base.specs.declared.names.Rect.{Rect}
use Rattle.jx_base.specs.Bands.{bands_at}
use Rattle.jx_base.specs.Places.{InRect, length_of, size_of, column_at, row_at, number_at}
use Rattle.jx_geom.specs.declared.leaves.Leaves.{Leaves}
use Rattle.jx_geom.specs.declared.leaves.BandLeaves.{BandLeaves}
use Rattle.jx_geom.specs.Counts.{blocks_before_band}
use Rattle.jx_geom.specs.Geometry.{Geometry, GeometryInRange, shape_of, rect_of_tile, blocks_in}
use Rattle.jx_geom.specs.Leaves.{AreLeaves, leaf_at, band_leaf_at}
use Rattle.jx_geom.specs.Precincts.{HasPrecinct, cells_at, leaves, leaf_index, leaf_name, leaf_number, name_from}
use Rattle.jx_geom.specs.Resolutions.{resolution_at}
use Rattle.jx_geom.proofs.LeafLemmas.{bands_low, bands_high, named, name_here, name_later, leaf_of, leaf_is, leaves_low, leaves_high, cell_in_band}
use Rattle.jx_geom.proofs.TableLemmas.{at_blocks}
use Rattle.jx_base.proofs.Raster.{factor_some}

abbrev number_in_resolution : Geometry → BlockName → ℕ
number_in_resolution g n = blocks_before_band (rect_of_tile g) (shape_of g n.comp) n.res n.band + n.index

-- the number in its resolution of a precinct's block, by the band that it is in
pub leaf_low : (g : Geometry) (c r k j : ℕ) → r ≡ 0 → j < leaves g c r k
    → number_in_resolution g (leaf_name g c r k j) ≡ leaf_index g c r k LL j
unfolding leaf_name
leaf_low g c r k j low lt =
    let name : name_from g c r k (bands_at r) j ≡ named g c r LL (leaf_index g c r k LL j) =
    ap (λ (bands : List Band). name_from g c r k bands j) (bands_low r low) ∙ name_here g c r k LL [] j (omega (arith, leaves_low g c r k low)) in
    ap (λ (n : BlockName). number_in_resolution g n) name ∙ (let none : 0 + leaf_index g c r k LL j ≡ leaf_index g c r k LL j = omega arith in none)

pub leaf_first : (g : Geometry) (c r k j : ℕ) → 0 < r → j < size_of (cells_at g c r k HL)
    → number_in_resolution g (leaf_name g c r k j) ≡ leaf_index g c r k HL j
unfolding leaf_name
leaf_first g c r k j some lt =
    let name : name_from g c r k (bands_at r) j ≡ named g c r HL (leaf_index g c r k HL j) =
    ap (λ (bands : List Band). name_from g c r k bands j) (bands_high r some) ∙ name_here g c r k HL (LH ∷ HH ∷ []) j lt in
    ap (λ (n : BlockName). number_in_resolution g n) name ∙ (let none : 0 + leaf_index g c r k HL j ≡ leaf_index g c r k HL j = omega arith in none)

pub leaf_middle : (g : Geometry) (c r k j : ℕ) → 0 < r → size_of (cells_at g c r k HL) ≤ j → j - size_of (cells_at g c r k HL) < size_of (cells_at g c r k LH)
    → number_in_resolution g (leaf_name g c r k j) ≡ size_of (blocks_in g c r HL) + leaf_index g c r k LH (j - size_of (cells_at g c r k HL))
unfolding leaf_name
leaf_middle g c r k j some ge lt =
    let name : name_from g c r k (bands_at r) j ≡ named g c r LH (leaf_index g c r k LH (j - size_of (cells_at g c r k HL))) =
    ap (λ (bands : List Band). name_from g c r k bands j) (bands_high r some) ∙ name_later g c r k HL (LH ∷ HH ∷ []) j ge
    ∙ name_here g c r k LH (HH ∷ []) (j - size_of (cells_at g c r k HL)) lt in
    ap (λ (n : BlockName). number_in_resolution g n) name

pub leaf_high : (g : Geometry) (c r k j : ℕ) → 0 < r → j < leaves g c r k → size_of (cells_at g c r k HL) ≤ j
    → size_of (cells_at g c r k LH) ≤ j - size_of (cells_at g c r k HL)
    → number_in_resolution g (leaf_name g c r k j)
    ≡ size_of (blocks_in g c r HL) + size_of (blocks_in g c r LH) + leaf_index g c r k HH (j - size_of (cells_at g c r k HL) - size_of (cells_at g c r k LH))
unfolding leaf_name
leaf_high g c r k j some lt ge after =
    let name : name_from g c r k (bands_at r) j ≡ named g c r HH (leaf_index g c r k HH (j - size_of (cells_at g c r k HL) - size_of (cells_at g c r k LH))) =
    ap (λ (bands : List Band). name_from g c r k bands j) (bands_high r some) ∙ name_later g c r k HL (LH ∷ HH ∷ []) j ge
    ∙ name_later g c r k LH (HH ∷ []) (j - size_of (cells_at g c r k HL)) after
    ∙ name_here g c r k HH [] (j - size_of (cells_at g c r k HL) - size_of (cells_at g c r k LH)) (omega (arith, leaves_high g c r k some)) in
    ap (λ (n : BlockName). number_in_resolution g n) name

-- the number in its tile
abbrev pub before_of : Geometry → ℕ → ℕ → ℕ
before_of g c r = (resolution_at (rect_of_tile g) g.shapes c r).blocks_before

leaf_split : (g : Geometry) (c r k j : ℕ) → GeometryInRange g → HasPrecinct g c r k → j < leaves g c r k
    → leaf_number g c r k j ≡ before_of g c r + number_in_resolution g (leaf_name g c r k j)
leaf_split g c r k j h there lt =
    let leaf = leaf_of g c r k j h there lt in
    let n = leaf_name g c r k j in
    let whole : leaf_number g c r k j ≡ before_of g n.comp n.res + number_in_resolution g n = leaf_is g c r k j ∙ sym (at_blocks g n) in
    let P : ℕ → Type 0 = λ x. leaf_number g c r k j ≡ before_of g x n.res + number_in_resolution g n in
    let Q : ℕ → Type 0 = λ x. leaf_number g c r k j ≡ before_of g c x + number_in_resolution g n in
    subst Q leaf.res (subst P leaf.comp whole)

-- a block of a part
pub part_index : (cells all : Rect) (p : BandLeaves) (before j : ℕ) → InRect all cells.x.low cells.y.low → j < size_of cells
    → p.wide ≡ length_of cells.x → p.stride ≡ length_of all.x → p.first ≡ before + number_at all cells.x.low cells.y.low
    → band_leaf_at p j ≡ before + number_at all (column_at cells j) (row_at cells j)
part_index cells all p before j corner lt wide stride first =
    let some : 0 < length_of cells.x = factor_some j (length_of cells.x) (length_of cells.y) lt in
    let w : max p.wide 1 ≡ length_of cells.x = omega arith in
    let quotient : j / max p.wide 1 ≡ j / length_of cells.x = ap (λ n. j / n) w in
    let rest : j % max p.wide 1 ≡ j % length_of cells.x = ap (λ n. j % n) w in
    let rows : row_at cells j - all.y.low ≡ (cells.y.low - all.y.low) + j / length_of cells.x = omega (arith, corner.down.from) in
    let product : (row_at cells j - all.y.low) * length_of all.x ≡ (cells.y.low - all.y.low) * length_of all.x + j / length_of cells.x * length_of all.x =
    ap (λ n. n * length_of all.x) rows ∙ add-mul (cells.y.low - all.y.low) (j / length_of cells.x) (length_of all.x) in
    let step : j / max p.wide 1 * p.stride ≡ j / length_of cells.x * length_of all.x = ap (λ n. n * p.stride) quotient ∙ ap (λ n. j / length_of cells.x * n) stride in
    omega (arith, corner.across.from)

-- the first cell of a precinct's part of a band that isn't empty is one of the band's
pub corner_in : (g : Geometry) (c r k : ℕ) (b : Band) → GeometryInRange g → HasPrecinct g c r k → 0 < size_of (cells_at g c r k b)
    → InRect (blocks_in g c r b) (cells_at g c r k b).x.low (cells_at g c r k b).y.low
corner_in g c r k b h there some =
    let wide = factor_some 0 (length_of (cells_at g c r k b).x) (length_of (cells_at g c r k b).y) some in
    let turned : 0 < length_of (cells_at g c r k b).y * length_of (cells_at g c r k b).x = omega arith in
    let high = factor_some 0 (length_of (cells_at g c r k b).y) (length_of (cells_at g c r k b).x) turned in
    cell_in_band g c r k b (cells_at g c r k b).x.low (cells_at g c r k b).y.low h there
    (record { across = record { from = omega arith; below = omega arith }; down = record { from = omega arith; below = omega arith } })

-- a part is that of a band, behind so many blocks
pub record IsBandLeaves (g : Geometry) (c r k : ℕ) (b : Band) (before : ℕ) (p : BandLeaves) : Type 0 where
  pub count : p.count ≡ size_of (cells_at g c r k b)
  pub each : (j : ℕ) → j < size_of (cells_at g c r k b) → band_leaf_at p j ≡ before + leaf_index g c r k b j

at_low : (l : Leaves) (j : ℕ) → j < l.low.count → leaf_at l j ≡ band_leaf_at l.low j
at_low l j lt = grind (arith, nat_tests)

at_middle : (l : Leaves) (j : ℕ) → l.low.count ≤ j → j - l.low.count < l.middle.count → leaf_at l j ≡ band_leaf_at l.middle (j - l.low.count)
at_middle l j ge lt = grind (arith, nat_tests)

at_high : (l : Leaves) (j : ℕ) → l.low.count ≤ j → l.middle.count ≤ j - l.low.count → leaf_at l j ≡ band_leaf_at l.high (j - l.low.count - l.middle.count)
at_high l j ge ge2 = grind (arith, nat_tests)

pub low_leaves : (g : Geometry) (c r k : ℕ) (l : Leaves) → GeometryInRange g → HasPrecinct g c r k → r ≡ 0
    → IsBandLeaves g c r k LL (before_of g c r) l.low → l.middle.count ≡ 0 → l.high.count ≡ 0 → AreLeaves g c r k l
low_leaves g c r k l h there low part none none2 = record {
  count = omega (arith, part.count, leaves_low g c r k low);
  each = λ j lt.
      let below : j < size_of (cells_at g c r k LL) = omega (arith, leaves_low g c r k low) in
      let here : j < l.low.count = omega (arith, part.count) in
      omega (arith, at_low l j here, part.each j below, leaf_split g c r k j h there lt, leaf_low g c r k j low lt);
}

-- above resolution 0, band by band
pub record AreBandLeaves (g : Geometry) (c r k : ℕ) (l : Leaves) : Type 0 where
  pub low : IsBandLeaves g c r k HL (before_of g c r) l.low
  pub middle : IsBandLeaves g c r k LH (before_of g c r + size_of (blocks_in g c r HL)) l.middle
  pub high : IsBandLeaves g c r k HH (before_of g c r + size_of (blocks_in g c r HL) + size_of (blocks_in g c r LH)) l.high

above_each : (g : Geometry) (c r k : ℕ) (l : Leaves) → GeometryInRange g → HasPrecinct g c r k → 0 < r → AreBandLeaves g c r k l
    → (j : ℕ) → j < leaves g c r k → leaf_at l j ≡ leaf_number g c r k j
above_each g c r k l h there some parts j lt = elim (cases_lt j (size_of (cells_at g c r k HL))) [
  | inl first ↦
      let here : j < l.low.count = omega (arith, parts.low.count) in
      omega (arith, at_low l j here, parts.low.each j first, leaf_split g c r k j h there lt, leaf_first g c r k j some first)
  | inr later ↦
      let ge : l.low.count ≤ j = omega (arith, parts.low.count) in
      let left : j - l.low.count ≡ j - size_of (cells_at g c r k HL) = omega (arith, parts.low.count) in
      elim (cases_lt (j - size_of (cells_at g c r k HL)) (size_of (cells_at g c r k LH))) [
        | inl second ↦
            let here : j - l.low.count < l.middle.count = omega (arith, parts.middle.count) in
            let at : leaf_at l j ≡ band_leaf_at l.middle (j - size_of (cells_at g c r k HL)) = at_middle l j ge here ∙ ap (λ n. band_leaf_at l.middle n) left in
            omega (
              arith,
              at,
              parts.middle.each (j - size_of (cells_at g c r k HL)) second,
              leaf_split g c r k j h there lt,
              leaf_middle g c r k j some later second,
            )
        | inr third ↦
            let beyond : l.middle.count ≤ j - l.low.count = omega (arith, parts.middle.count) in
            let left2 : j - l.low.count - l.middle.count ≡ j - size_of (cells_at g c r k HL) - size_of (cells_at g c r k LH) = omega (arith, parts.middle.count) in
            let at : leaf_at l j ≡ band_leaf_at l.high (j - size_of (cells_at g c r k HL) - size_of (cells_at g c r k LH)) =
            at_high l j ge beyond ∙ ap (λ n. band_leaf_at l.high n) left2 in
            let below : j - size_of (cells_at g c r k HL) - size_of (cells_at g c r k LH) < size_of (cells_at g c r k HH) = omega (arith, leaves_high g c r k some) in
            omega (
              arith,
              at,
              parts.high.each (j - size_of (cells_at g c r k HL) - size_of (cells_at g c r k LH)) below,
              leaf_split g c r k j h there lt,
              leaf_high g c r k j some lt later third,
            )
      ]
]

pub high_leaves : (g : Geometry) (c r k : ℕ) (l : Leaves) → GeometryInRange g → HasPrecinct g c r k → 0 < r → AreBandLeaves g c r k l → AreLeaves g c r k l
high_leaves g c r k l h there some parts = record {
  count = omega (arith, parts.low.count, parts.middle.count, parts.high.count, leaves_high g c r k some);
  each = above_each g c r k l h there some parts;
}

-- a part that is made
pub made_part : (g : Geometry) (c r k : ℕ) (b : Band) (before : ℕ) (cells all : Rect) (p : BandLeaves) → GeometryInRange g → HasPrecinct g c r k
    → cells ≡ cells_at g c r k b → all ≡ blocks_in g c r b → 0 < size_of cells
    → p.wide ≡ length_of cells.x → p.stride ≡ length_of all.x → p.first ≡ before + number_at all cells.x.low cells.y.low
    → (j : ℕ) → j < size_of (cells_at g c r k b) → band_leaf_at p j ≡ before + leaf_index g c r k b j
made_part g c r k b before cells all p h there ec ea =
    let P : Rect → Type 0 = λ x. 0 < size_of x → p.wide ≡ length_of x.x → p.stride ≡ length_of all.x → p.first ≡ before + number_at all x.x.low x.y.low
    → (j : ℕ) → j < size_of (cells_at g c r k b) → band_leaf_at p j ≡ before + leaf_index g c r k b j in
    let Q : Rect → Type 0 = λ y. 0 < size_of (cells_at g c r k b) → p.wide ≡ length_of (cells_at g c r k b).x → p.stride ≡ length_of y.x
    → p.first ≡ before + number_at y (cells_at g c r k b).x.low (cells_at g c r k b).y.low
    → (j : ℕ) → j < size_of (cells_at g c r k b) → band_leaf_at p j ≡ before + leaf_index g c r k b j in
    subst P (sym ec) (subst Q (sym ea) (λ some wide stride first j lt.
    part_index (cells_at g c r k b) (blocks_in g c r b) p before j (corner_in g c r k b h there some) lt wide stride first))

pub corner_of : (g : Geometry) (c r k : ℕ) (b : Band) (cells all : Rect) → GeometryInRange g → HasPrecinct g c r k
    → cells ≡ cells_at g c r k b → all ≡ blocks_in g c r b → 0 < size_of cells → InRect all cells.x.low cells.y.low
corner_of g c r k b cells all h there ec ea =
    let P : Rect → Type 0 = λ x. 0 < size_of x → InRect all x.x.low x.y.low in
    let Q : Rect → Type 0 = λ y. 0 < size_of (cells_at g c r k b) → InRect y (cells_at g c r k b).x.low (cells_at g c r k b).y.low in
    subst P (sym ec) (subst Q (sym ea) (corner_in g c r k b h there))
