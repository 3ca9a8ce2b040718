-- The one precinct of a resolution with drawn blocks: its bands are in their ranges, and its leaves fit.
use Rattle.std.proofs.Common.{◌≡◌, ◌∙◌, ℕ, zero, suc, ◌+◌, ◌*◌, ◌≤◌, ◌<◌, ◌==◌, List, [], ◌∷◌, ◌++◌, length, map, take, drop, refl, sym, ap, subst, arith, inl, inr, Bool, true, false}
use Rattle.std.specs.List.{AllByRecursion, range_with_len}
use Rattle.std.proofs.lemmas.Bool.Decides.{nat_tests}
use Rattle.std.proofs.lemmas.List.FromFn.{length-map-range_with_len, take-map-range_with_len}
use Rattle.std.proofs.Math.Seq.{drop-append_seam}
use Rattle.jx_base.specs.declared.names.Band.{Band}
use Rattle.jx_base.specs.declared.names.Rect.{Rect}
use Rattle.jx_base.specs.Bands.{bands_at}
use Rattle.jx_base.specs.Places.{length_of, size_of}
use Rattle.jx_base.proofs.Raster.{factor_some}
use Rattle.jx_geom.specs.Geometry.{Geometry}
use Rattle.jx_geom.specs.Precincts.{cells_at, leaf_number, leaves, leaves_in}
use Rattle.jx_geom.proofs.LeafLemmas.{leaves_limited}
use Rattle.jx_packet_header.specs.declared.BandCells.{BandCells}
use Rattle.jx_packet_header.specs.LeavesFit.{AllShort, FitBand, FitBands, FitsLeaf, HasShort, InTypes, LeavesFit, LeavesInRange}
use Rattle.jx_packet_header.proofs.PlanLemmas.{fit_range}
use Rattle.jx_packet_header.specs.Precinct.{AreBandCells, CellsInRange, IsBandCells, cells_in}
use Rattle.jx_packet_header.specs.Written.{Leafed}
use Rattle.jx_tile.specs.Cells.{sizes_of}
use Rattle.jx_tier2_reader.proofs.CellLemmas.{pick, size_is}
use Rattle.jx_generate.specs.Drawn.{state_before}
use Rattle.jx_generate.specs.Headers.{AreSizes, geometry_made}
use Rattle.jx_generate.specs.Made.{bands_made, leaf_made, leaves_made}
use Rattle.jx_generate.proofs.DrawnFits.{drawn_fits, drawn_short}
use Rattle.jx_generate.proofs.GeometryLemmas.{geometry_in_range, precinct_there}

abbrev pub cells_13 : Geometry → ℕ → ℕ → List Band → List BandCells
cells_13 g c r bands = map (λ (b : Band). sizes_of (cells_at g c r 0 b) 13) bands

-- ---- the bands
planes_13 : (cells : Rect) → (sizes_of cells 13).planes ≡ 13
planes_13 cells = by (size_of cells == 0)
  where
    by : (t : Bool) → (pick cells 13 t).planes ≡ 13
    by true = refl
    by false = refl

sizes_fit : (cells : Rect) → IsBandCells (sizes_of cells 13)
sizes_fit cells = by (size_of cells == 0) refl
  where
    by : (t : Bool) → (size_of cells == 0) ≡ t → IsBandCells (pick cells 13 t)
    by true e = record { size = inl (refl, refl); planes = omega arith }
    by false e =
        let some : 0 < length_of cells.x * length_of cells.y = grind (arith, nat_tests) in
        let turned : 0 < length_of cells.y * length_of cells.x = omega arith in
        record {
          size = inr (factor_some 0 (length_of cells.x) (length_of cells.y) some, factor_some 0 (length_of cells.y) (length_of cells.x) turned);
          planes = omega arith;
        }

each_fits : (g : Geometry) (c r : ℕ) (bands : List Band) → AreBandCells (cells_13 g c r bands)
each_fits g c r [] = tt
each_fits g c r (b ∷ bands) = (sizes_fit (cells_at g c r 0 b), each_fits g c r bands)

bands_count : (g : Geometry) (c r : ℕ) (bands : List Band) → cells_in (cells_13 g c r bands) ≡ leaves_in g c r 0 bands
bands_count g c r [] = refl
bands_count g c r (b ∷ bands) =
    let rest : cells_in (cells_13 g c r bands) ≡ leaves_in g c r 0 bands = bands_count g c r bands in
    omega (arith, size_is (cells_at g c r 0 b) 13)

pub cells_made : (w h c r : ℕ) → cells_in (bands_made w h c r) ≡ leaves (geometry_made w h) c r 0
unfolding bands_made
cells_made w h c r = bands_count (geometry_made w h) c r (bands_at r)

pub bands_in_range : (w h c r : ℕ) → AreSizes w h → c < 3 → r ≤ 5 → CellsInRange (bands_made w h c r)
unfolding bands_made
bands_in_range w h c r sizes lt le = record {
  each = each_fits (geometry_made w h) c r (bands_at r);
  few = omega (arith, bands_count (geometry_made w h) c r (bands_at r), leaves_limited (geometry_made w h) c r 0 (geometry_in_range w h sizes) (precinct_there w h c r sizes lt le));
}

-- ---- the leaves
module _ (leaf : ℕ → Leafed) (fits : (j : ℕ) → FitsLeaf 0 12 13 j (leaf j) (leaf j).parts) where
  fit_band : (a n : ℕ) → FitBand 0 12 13 a (map leaf (range_with_len a n))
  fit_band a zero = tt
  fit_band a (suc n) = (fits a, fit_band (a + 1) n)

  range_split : (a m n : ℕ) → map leaf (range_with_len a (m + n)) ≡ map leaf (range_with_len a m) ++ map leaf (range_with_len (a + m) n)
  range_split a zero n =
      let e : 0 + n ≡ n = omega arith in
      let f : a ≡ a + 0 = omega arith in
      ap (λ (k : ℕ). map leaf (range_with_len a k)) e ∙ ap (λ (k : ℕ). map leaf (range_with_len k n)) f
  range_split a (suc m) n =
      let e : suc m + n ≡ suc (m + n) = omega arith in
      let f : a + 1 + m ≡ a + suc m = omega arith in
      ap (λ (k : ℕ). map leaf (range_with_len a k)) e
      ∙ ap (λ (xs : List Leafed). leaf a ∷ xs) (range_split (a + 1) m n ∙ ap (λ (k : ℕ). map leaf (range_with_len (a + 1) m) ++ map leaf (range_with_len k n)) f)

  pub fit_bands : (a : ℕ) (bands : List BandCells) → AllByRecursion (λ (b : BandCells). b.planes ≡ 13) bands → FitBands 0 12 a bands (map leaf (range_with_len a (cells_in bands)))
  fit_bands a [] all = tt
  fit_bands a (b ∷ bands) all =
      let n : ℕ = b.wide * b.high in
      let front : List Leafed = map leaf (range_with_len a n) in
      let back : List Leafed = map leaf (range_with_len (a + n) (cells_in bands)) in
      let long : length front ≡ n = length-map-range_with_len leaf a n in
      let taken : take n (map leaf (range_with_len a (n + cells_in bands))) ≡ front = take-map-range_with_len leaf a (n + cells_in bands) n (omega arith) in
      let left : drop n (map leaf (range_with_len a (n + cells_in bands))) ≡ back =
      ap (drop n) (range_split a n (cells_in bands)) ∙ ap (λ (m : ℕ). drop m (front ++ back)) (sym long) ∙ drop-append_seam front back in
      let P : ℕ → List Leafed → Type 0 = λ p l. FitBand 0 12 p a l in (
        subst (λ (p : ℕ). P p (take n (map leaf (range_with_len a (n + cells_in bands))))) (sym all.0) (subst (P 13) (sym taken) (fit_band a n)),
        subst (λ (l : List Leafed). FitBands 0 12 (a + n) bands l) (sym left) (fit_bands (a + n) bands all.1),
      )

short_range : (leaf : ℕ → Leafed) → ((j : ℕ) → HasShort (leaf j).parts) → (a n : ℕ) → AllShort (map leaf (range_with_len a n))
short_range leaf short a zero = tt
short_range leaf short a (suc n) = (short a, short_range leaf short (a + 1) n)

pub all_13 : (g : Geometry) (c r : ℕ) (bands : List Band) → AllByRecursion (λ (b : BandCells). b.planes ≡ 13) (cells_13 g c r bands)
all_13 g c r [] = tt
all_13 g c r (b ∷ bands) = (planes_13 (cells_at g c r 0 b), all_13 g c r bands)

leaf_fits : (seed w h c r j : ℕ) → FitsLeaf 0 12 13 j (leaf_made seed w h c r j) (leaf_made seed w h c r j).parts
leaf_fits seed w h c r j = drawn_fits j (state_before seed (leaf_number (geometry_made w h) c r 0 j))

leaf_short : (seed w h c r j : ℕ) → HasShort (leaf_made seed w h c r j).parts
leaf_short seed w h c r j = drawn_short j (state_before seed (leaf_number (geometry_made w h) c r 0 j))

leaves_long : (seed w h c r : ℕ) → length (leaves_made seed w h c r) ≡ cells_in (bands_made w h c r)
unfolding leaves_made
leaves_long seed w h c r = length-map-range_with_len (leaf_made seed w h c r) 0 (leaves (geometry_made w h) c r 0) ∙ sym (cells_made w h c r)

pub leaves_fit : (seed w h c r : ℕ) → LeavesFit 0 12 (bands_made w h c r) (leaves_made seed w h c r)
unfolding leaves_made bands_made
leaves_fit seed w h c r =
    let g : Geometry = geometry_made w h in
    let made : List BandCells = cells_13 g c r (bands_at r) in
    let leaf : ℕ → Leafed = leaf_made seed w h c r in
    let fit : FitBands 0 12 0 made (map leaf (range_with_len 0 (cells_in made))) = fit_bands leaf (leaf_fits seed w h c r) 0 made (all_13 g c r (bands_at r)) in
    record {
      all = leaves_long seed w h c r;
      each = subst (λ (n : ℕ). FitBands 0 12 0 made (map leaf (range_with_len 0 n))) (bands_count g c r (bands_at r)) fit;
    }

pub leaves_typed : (seed w h c r : ℕ) → InTypes 12 (leaves_made seed w h c r)
unfolding leaves_made
leaves_typed seed w h c r = record { few = omega arith; short = short_range (leaf_made seed w h c r) (leaf_short seed w h c r) 0 (leaves (geometry_made w h) c r 0) }

pub leaves_in_range : (seed w h c r : ℕ) → AreSizes w h → c < 3 → r ≤ 5 → LeavesInRange (bands_made w h c r) (leaves_made seed w h c r)
leaves_in_range seed w h c r sizes lt le = fit_range 0 12 (bands_made w h c r) (leaves_made seed w h c r) (bands_in_range w h c r sizes lt le) (leaves_fit seed w h c r)
