-- The number of a precinct is below the count of precincts, grows with its name, and each number is that of one.
use Rattle.std.proofs.Common.{◌≡◌, ℕ, ◌+◌, ◌≤◌, ◌<◌, ◌⊎◌, length, inl, inr, ◌∙◌, ap, sym, subst, arith}
use Rattle.jx_base.specs.Joined.{sum_below}
use Rattle.jx_base.proofs.Sums.{sum_below_more, sum_once, front_sum, whole_sum}
use Rattle.jx_geom.specs.Counts.{precinct_count, component_precincts, tile_precincts}
use Rattle.jx_geom.specs.Geometry.{Geometry, no_shape, shape_of, rect_of_tile}
use Rattle.jx_geom.specs.Precincts.{HasPrecinct, PrecinctBefore, precinct_number}
use Rattle.jx_geom.proofs.NumberLemmas.{component_split, sum_below_split}

-- the number of a precinct as sums of terms by place
pub precinct_number_is : (g : Geometry) (c r k : ℕ) → c ≤ length g.shapes
    → precinct_number g c r k
    ≡ sum_below (λ c. component_precincts (rect_of_tile g) (shape_of g c)) c + (sum_below (precinct_count (rect_of_tile g) (shape_of g c)) r + k)
unfolding precinct_number
precinct_number_is g c r k le = omega (arith, front_sum (component_precincts (rect_of_tile g)) g.shapes no_shape c le)

-- within its component
pub precinct_within : (g : Geometry) (c r k : ℕ) → HasPrecinct g c r k
    → sum_below (precinct_count (rect_of_tile g) (shape_of g c)) r + k < component_precincts (rect_of_tile g) (shape_of g c)
unfolding component_precincts
precinct_within g c r k h =
    omega (arith, sum_below_more (precinct_count (rect_of_tile g) (shape_of g c)) r ((shape_of g c).levels + 1) (omega (arith, h.resolution.level)), h.precinct)

pub precinct_below : (g : Geometry) (c r k : ℕ) → HasPrecinct g c r k → precinct_number g c r k < tile_precincts (rect_of_tile g) g.shapes
precinct_below g c r k h =
    let more = sum_below_more (λ c. component_precincts (rect_of_tile g) (shape_of g c)) c (length g.shapes) h.resolution.component in
    omega (
      arith,
      precinct_number_is g c r k (omega (arith, h.resolution.component)),
      precinct_within g c r k h,
      more,
      whole_sum (component_precincts (rect_of_tile g)) g.shapes no_shape,
    )

-- no two precincts of a tile have one number
once_in_component : (g : Geometry) (c r k r' k' : ℕ) → HasPrecinct g c r k → HasPrecinct g c r' k'
    → sum_below (precinct_count (rect_of_tile g) (shape_of g c)) r + k ≡ sum_below (precinct_count (rect_of_tile g) (shape_of g c)) r' + k' → (r ≡ r') × (k ≡ k')
once_in_component g c r k r' k' h h' e = sum_once (precinct_count (rect_of_tile g) (shape_of g c)) r r' k k' h.precinct h'.precinct e

pub precinct_once : (g : Geometry) (c r k c' r' k' : ℕ) → HasPrecinct g c r k → HasPrecinct g c' r' k'
    → precinct_number g c r k ≡ precinct_number g c' r' k' → (c ≡ c') × (r ≡ r') × (k ≡ k')
precinct_once g c r k c' r' k' h h' e =
    let first = precinct_number_is g c r k (omega (arith, h.resolution.component)) in
    let second = precinct_number_is g c' r' k' (omega (arith, h'.resolution.component)) in
    let comp = sum_once (λ c. component_precincts (rect_of_tile g) (shape_of g c)) c c'
    (sum_below (precinct_count (rect_of_tile g) (shape_of g c)) r + k) (sum_below (precinct_count (rect_of_tile g) (shape_of g c')) r' + k')
    (precinct_within g c r k h) (precinct_within g c' r' k' h') (sym first ∙ e ∙ second) in
    let P : ℕ → Type 0 = λ n. HasPrecinct g n r' k'
    → sum_below (precinct_count (rect_of_tile g) (shape_of g c)) r + k ≡ sum_below (precinct_count (rect_of_tile g) (shape_of g n)) r' + k'
    → (r ≡ r') × (k ≡ k') in
    let inner = subst P comp.0 (once_in_component g c r k r' k' h) h' comp.1 in
    (comp.0, inner.0, inner.1)

-- a later precinct has a larger number
later_in_component : (g : Geometry) (c r k q m : ℕ) → HasPrecinct g c r k → (r < q) ⊎ ((r ≡ q) × (k < m))
    → sum_below (precinct_count (rect_of_tile g) (shape_of g c)) r + k < sum_below (precinct_count (rect_of_tile g) (shape_of g c)) q + m
later_in_component g c r k q m h before = elim before [
  | inl earlier ↦ omega (arith, sum_below_more (precinct_count (rect_of_tile g) (shape_of g c)) r q earlier, h.precinct)
  | inr same ↦
      let e : sum_below (precinct_count (rect_of_tile g) (shape_of g c)) r ≡ sum_below (precinct_count (rect_of_tile g) (shape_of g c)) q =
      ap (λ n. sum_below (precinct_count (rect_of_tile g) (shape_of g c)) n) same.0 in
      omega (arith, e, same.1)
]

pub precinct_grows : (g : Geometry) (c r k d q m : ℕ) → HasPrecinct g c r k → HasPrecinct g d q m → PrecinctBefore c r k d q m
    → precinct_number g c r k < precinct_number g d q m
precinct_grows g c r k d q m h h' before =
    let first = precinct_number_is g c r k (omega (arith, h.resolution.component)) in
    let second = precinct_number_is g d q m (omega (arith, h'.resolution.component)) in
    elim before [
      | inl earlier ↦
          omega (arith, first, second, precinct_within g c r k h, sum_below_more (λ c. component_precincts (rect_of_tile g) (shape_of g c)) c d earlier)
      | inr same ↦
          let P : ℕ → Type 0 = λ n. sum_below (λ c. component_precincts (rect_of_tile g) (shape_of g c)) c + (sum_below (precinct_count (rect_of_tile g) (shape_of g c)) r + k)
          < sum_below (λ c. component_precincts (rect_of_tile g) (shape_of g c)) n + (sum_below (precinct_count (rect_of_tile g) (shape_of g n)) q + m) in
          let inner : P c = omega (arith, later_in_component g c r k q m h same.1) in
          let moved : P d = subst P same.0 inner in
          omega (arith, first, second, moved)
    ]

-- each number below the count is that of a precinct
pub record PrecinctAt (g : Geometry) (n : ℕ) : Type 0 where
  pub comp : ℕ
  pub res : ℕ
  pub index : ℕ
  pub there : HasPrecinct g comp res index
  pub number : precinct_number g comp res index ≡ n

pub precinct_taken : (g : Geometry) (n : ℕ) → n < tile_precincts (rect_of_tile g) g.shapes → PrecinctAt g n
unfolding precinct_number component_precincts
precinct_taken g n lt =
    let comp = component_split (component_precincts (rect_of_tile g)) g.shapes n lt in
    let res = sum_below_split (precinct_count (rect_of_tile g) (shape_of g comp.0)) ((shape_of g comp.0).levels + 1) comp.1 comp.2.1 in
    record {
      comp = comp.0;
      res = res.0;
      index = res.1;
      there = record { resolution = record { component = comp.2.0; level = omega (arith, res.2.0) }; precinct = res.2.1 };
      number = omega (arith, comp.2.2, res.2.2);
    }
