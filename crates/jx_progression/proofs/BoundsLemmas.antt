-- What the bounds of a group say of its resolutions.
use Rattle.std.proofs.Common.{◌≡◌, ◌≢◌, ℕ, ◌+◌, ◌≤◌, ◌<◌, List, inl, inr, subst, sym, arith, min, length, get_or, slice_index}
use Rattle.std.specs.Prelude.{slice_index_or, slice_set}
use Rattle.std.proofs.lemmas.Bool.{cases_eq, cases_lt}
use Rattle.std.proofs.lemmas.List.{get_or-set_other, get_or-set_same, get_or_default, length-set}
use Rattle.std.specs.List.{All}
use Rattle.jx_geom.specs.declared.table.Resolution.{Resolution}
use Rattle.jx_geom.specs.Geometry.{Geometry}
use Rattle.jx_geom.specs.Resolutions.{resolutions_of}
use Rattle.jx_marker.specs.declared.Progression.{Progression}
use Rattle.jx_progression.specs.declared.bounds.Bounds.{Bounds}
use Rattle.jx_progression.specs.Groups.{AreBounds, IsSent, IsWithin, group_at, no_bounds}
use Rattle.jx_progression.specs.Steps.{row_at, row_end, row_of}
use Rattle.jx_progression.proofs.RowLemmas.{end_most, zero_below, zero_comp, zero_end, zero_precincts, zero_res}

-- ---- an entry that goes past none of them
pub skips_layers : (layers : ℕ) (e : Progression) (b : Bounds) (q : Resolution) (n : ℕ) → min e.lye layers ≤ b.layers → IsWithin b q n → row_end layers e q ≤ n
skips_layers layers e b q n le h = elim (cases_lt 0 q.precincts) [
  | inl some ↦ omega (arith, end_most layers e q, h.layers some)
  | inr none ↦ omega (arith, zero_precincts layers e q (omega arith))
]

pub skips_low : (layers : ℕ) (e : Progression) (b : Bounds) (q : Resolution) (n : ℕ) → b.comp_high < e.cs → IsWithin b q n → row_end layers e q ≤ n
skips_low layers e b q n lt h =
    let to : q.comp ≤ b.comp_high = h.comp_high in
    omega (arith, zero_comp layers e q (omega arith))

pub skips_high : (layers : ℕ) (e : Progression) (b : Bounds) (q : Resolution) (n : ℕ) → e.ce ≢ 0 → e.ce ≤ b.comp_low → IsWithin b q n → row_end layers e q ≤ n
skips_high layers e b q n some le h =
    let from : b.comp_low ≤ q.comp = h.comp_low in
    omega (arith, zero_end layers e q some (omega arith))

pub skips_res_low : (layers : ℕ) (e : Progression) (b : Bounds) (q : Resolution) (n : ℕ) → b.res_high < e.rs → IsWithin b q n → row_end layers e q ≤ n
skips_res_low layers e b q n lt h =
    let to : q.res ≤ b.res_high = h.res_high in
    omega (arith, zero_res layers e q (omega arith))

pub skips_res_high : (layers : ℕ) (e : Progression) (b : Bounds) (q : Resolution) (n : ℕ) → e.re ≤ b.res_low → IsWithin b q n → row_end layers e q ≤ n
skips_res_high layers e b q n le h =
    let from : b.res_low ≤ q.res = h.res_low in
    omega (arith, zero_below layers e q (omega arith))

-- ---- more layers are within the same bounds
pub within_rise : (b : Bounds) (q : Resolution) (n m : ℕ) → n ≤ m → IsWithin b q n → IsWithin b q m
within_rise b q n m le h = record {
  layers = λ some. (let low : b.layers ≤ n = h.layers some in omega arith);
  comp_low = h.comp_low;
  comp_high = h.comp_high;
  res_low = h.res_low;
  res_high = h.res_high;
}

pub bounds_rise : (g : Geometry) (places : List ℕ) (groups : List Bounds) (sent now : List ℕ) → ((i : ℕ) → slice_index sent i ≤ slice_index now i)
    → AreBounds g places groups sent → AreBounds g places groups now
bounds_rise g places groups sent now up h k lt i d below =
    within_rise (slice_index_or groups k no_bounds) (row_of g (get_or (group_at places k) i d)) (slice_index sent (get_or (group_at places k) i d))
    (slice_index now (get_or (group_at places k) i d)) (up (get_or (group_at places k) i d)) (h k lt i d below)

-- ---- a group's bounds taken anew
pub bounds_set : (g : Geometry) (places : List ℕ) (groups later : List Bounds) (sent : List ℕ) (group : ℕ) (b : Bounds) (rows : List Resolution) (own : List ℕ)
    → later ≡ slice_set groups group b → rows ≡ resolutions_of g → own ≡ group_at places group
    → All (λ i. IsWithin b (row_at rows i) (slice_index sent i)) own → AreBounds g places groups sent → AreBounds g places later sent
bounds_set g places groups later sent group b rows own set er eo new h =
    let P : List Bounds → Type 0 = λ bs. AreBounds g places bs sent in
    let R : List Resolution → Type 0 = λ rs. All (λ i. IsWithin b (row_at rs i) (slice_index sent i)) own in
    let Q : List ℕ → Type 0 = λ is. All (λ i. IsWithin b (row_of g i) (slice_index sent i)) is in
    let here : All (λ i. IsWithin b (row_of g i) (slice_index sent i)) (group_at places group) = subst Q eo (subst R er new) in
    let B : ℕ → Bounds → Type 0 = λ k c. All (λ i. IsWithin c (row_of g i) (slice_index sent i)) (group_at places k) in
    let all : AreBounds g places (slice_set groups group b) sent = λ k lt. elim (cases_eq k group) [
      | inl same ↦
          let K : ℕ → Type 0 = λ n. B n (slice_index_or (slice_set groups group b) n no_bounds) in
          subst K (sym same) (subst (B group) (sym (get_or-set_same groups group b no_bounds (omega (arith, length-set groups group b, same)))) here)
      | inr other ↦ subst (B k) (sym (get_or-set_other groups group k b no_bounds other)) (h k (omega (arith, length-set groups group b)))
    ] in
    subst P (sym set) all

-- ---- a group that is passed over
pub group_skipped : (g : Geometry) (layers : ℕ) (e : Progression) (places : List ℕ) (groups : List Bounds) (sent : List ℕ) (group : ℕ) (b : Bounds)
    → group < length groups → b ≡ slice_index_or groups group no_bounds → AreBounds g places groups sent
    → ((q : Resolution) (n : ℕ) → IsWithin b q n → row_end layers e q ≤ n) → All (IsSent g layers e sent) (group_at places group)
group_skipped g layers e places groups sent group b lt is h skips i d below =
    let W : Bounds → Type 0 = λ c. IsWithin c (row_of g (get_or (group_at places group) i d)) (slice_index sent (get_or (group_at places group) i d)) in
    skips (row_of g (get_or (group_at places group) i d)) (slice_index sent (get_or (group_at places group) i d)) (subst W (sym is) (h group lt i d below))

-- ---- a list that a loop goes over
pub at_all : (P : ℕ → Type 0) (xs : List ℕ) (n : ℕ) → length xs ≤ n → ((j : ℕ) → j < n → P (slice_index xs j)) → All P xs
at_all P xs n le h i d lt = subst P (get_or_default xs i 0 d lt) (h i (omega arith))

pub next_at : (P : ℕ → Type 0) (xs : List ℕ) (n : ℕ) → ((j : ℕ) → j < n → P (slice_index xs j)) → P (slice_index xs n) → (j : ℕ) → j < n + 1 → P (slice_index xs j)
next_at P xs n h own j lt = elim (cases_lt j n) [
  | inl less ↦ h j less
  | inr ge ↦
      let Q : ℕ → Type 0 = λ k. P (slice_index xs k) in
      let same : j ≡ n = omega arith in
      subst Q (sym same) own
]

pub within_at : (b : Bounds) (q r : Resolution) (n m : ℕ) → q ≡ r → n ≡ m → IsWithin b q n → IsWithin b r m
within_at b q r n m eq en h =
    let P : Resolution → Type 0 = λ v. IsWithin b v n in
    subst (IsWithin b r) en (subst P eq h)
