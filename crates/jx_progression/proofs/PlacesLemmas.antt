-- The places of the resolutions in groups.
use Rattle.std.proofs.Common.{◌≡◌, ℕ, zero, suc, ◌+◌, ◌-◌, ◌*◌, ◌/◌, ◌≤◌, ◌<◌, List, [], ◌∷◌, ◌++◌, inl, inr, ◌∙◌, ap, sym, subst, arith, min, length, take, drop, slice_index}
use Rattle.std.specs.Prelude.{slice_index_or}
use Rattle.std.proofs.lemmas.Bool.{cases_lt}
use Rattle.std.proofs.Math.Seq.{take-length}
use Rattle.std.proofs.lemmas.List.{drop-drop, get_or_append_left, get_or_push, length-append, length-drop, take-append-drop, take_min}
use Rattle.std.proofs.lemmas.List.Elements.{Contains-append_cases, Contains-append_left, Contains-push}
use Rattle.std.specs.List.{All, Contains}
use Rattle.jx_geom.specs.declared.table.Resolution.{Resolution}
use Rattle.jx_geom.specs.Geometry.{Geometry}
use Rattle.jx_geom.specs.Resolutions.{resolutions_of}
use Rattle.jx_progression.specs.declared.bounds.Bounds.{Bounds}
use Rattle.jx_progression.specs.Groups.{AreBounds, AreGroups, IsWithin, group_at, no_bounds}
use Rattle.jx_progression.specs.Steps.{row_at}

-- the first of what is left, where there are fewer
pub run_taken : {X : Type 0} (most k a : ℕ) (xs : List X) → k ≡ min (length (take (length xs - a) (drop a xs))) most
    → take k (take (length xs - a) (drop a xs)) ≡ take most (drop a xs)
run_taken {X} most k a xs is =
    let rest : List X = drop a xs in
    let whole : take (length xs - a) rest ≡ rest = ap (λ (n : ℕ). take n rest) (sym (length-drop a xs)) ∙ take-length rest in
    let few : k ≡ min most (length rest) = omega (arith, is, ap (λ (z : List X). length z) whole) in
    ap (λ (z : List X). take k z) whole ∙ ap (λ (n : ℕ). take n rest) few ∙ take_min most rest

-- each is in a group
pub in_group_of : (xs : List ℕ) (n i : ℕ) → length xs ≤ 128 * n → Contains xs i → (k : ℕ) × (k < n) × Contains (group_at xs k) i
in_group_of xs zero i few h = absurd (omega (arith, h.1))
in_group_of xs (suc n) i few h =
    let whole : take 128 xs ++ drop 128 xs ≡ xs = take-append-drop 128 xs in
    let C : List ℕ → Type 0 = λ l. Contains l i in
    elim (Contains-append_cases (take 128 xs) (drop 128 xs) i (subst C (sym whole) h)) [
      | inl here ↦ (0, omega arith, here)
      | inr rest ↦
          let r = in_group_of (drop 128 xs) n i (omega (arith, length-drop 128 xs)) rest in
          let same : drop (128 * r.0) (drop 128 xs) ≡ drop (128 * suc r.0) xs = drop-drop (128 * r.0) 128 xs ∙ ap (λ n. drop n xs) (omega arith) in
          (suc r.0, omega (arith, r.1), subst C (ap (λ (l : List ℕ). take 128 l) same) r.2)
    ]

pub are_groups : (g : Geometry) (places : List ℕ) (rows : List Resolution) (n : ℕ) → rows ≡ resolutions_of g
    → ((i : ℕ) → i < length rows → 0 < (row_at rows i).precincts → Contains places i) → n ≡ length places / 128 + 1 → AreGroups g places n
are_groups g places rows n er every count = record {
  every = λ i lt some. in_group_of places n i (omega (arith, count)) (every i (omega (arith, lt, ap (λ (rs : List Resolution). length rs) er))
      (omega (arith, some, ap (λ (rs : List Resolution). (row_at rs i).precincts) er)));
  begin = λ k lt. omega (arith, count, lt);
}

pub are_bounds : (g : Geometry) (places : List ℕ) (rows : List Resolution) (groups : List Bounds) (sent : List ℕ) → rows ≡ resolutions_of g
    → ((k : ℕ) → k < length groups → All (λ i. IsWithin (slice_index_or groups k no_bounds) (row_at rows i) (slice_index sent i)) (group_at places k))
    → AreBounds g places groups sent
are_bounds g places rows groups sent er h =
    let P : List Resolution → Type 0 = λ rs. (k : ℕ) → k < length groups
    → All (λ i. IsWithin (slice_index_or groups k no_bounds) (row_at rs i) (slice_index sent i)) (group_at places k) in
    subst P er h

-- ---- one more place
pub push_kept : (xs ys : List ℕ) (n : ℕ) → ys ≡ xs ++ n ∷ [] → (i : ℕ) → Contains xs i → Contains ys i
push_kept xs ys n same i has =
    let C : List ℕ → Type 0 = λ l. Contains l i in
    subst C (sym same) (Contains-append_left xs (n ∷ []) i has)

pub push_own : (xs ys : List ℕ) (n : ℕ) → ys ≡ xs ++ n ∷ [] → Contains ys n
push_own xs ys n same =
    let C : List ℕ → Type 0 = λ l. Contains l n in
    subst C (sym same) (Contains-push xs n)

pub filled_next : (rows : List Resolution) (q : Resolution) (xs ys : List ℕ) (n : ℕ) → q ≡ row_at rows n
    → ((i : ℕ) → i < n → 0 < (row_at rows i).precincts → Contains xs i) → ((i : ℕ) → Contains xs i → Contains ys i)
    → (0 < q.precincts → Contains ys n) → (i : ℕ) → i < n + 1 → 0 < (row_at rows i).precincts → Contains ys i
filled_next rows q xs ys n is h kept own i lt some = elim (cases_lt i n) [
  | inl less ↦ kept i (h i less some)
  | inr ge ↦
      let P : ℕ → Type 0 = λ k. Contains ys k in
      let here : n ≡ i = omega arith in
      subst P here (own (omega (arith, some, ap (λ (v : Resolution). v.precincts) is, ap (λ (k : ℕ). (row_at rows k).precincts) here)))
]

-- ---- the bounds of one group more
pub groups_more : (places : List ℕ) (rows : List Resolution) (sent : List ℕ) (groups later : List Bounds) (group : ℕ) (b : Bounds) (own : List ℕ)
    → later ≡ groups ++ b ∷ [] → length groups ≡ group → own ≡ group_at places group → All (λ i. IsWithin b (row_at rows i) (slice_index sent i)) own
    → ((k : ℕ) → k < length groups → All (λ i. IsWithin (slice_index_or groups k no_bounds) (row_at rows i) (slice_index sent i)) (group_at places k))
    → (k : ℕ) → k < length later → All (λ i. IsWithin (slice_index_or later k no_bounds) (row_at rows i) (slice_index sent i)) (group_at places k)
groups_more places rows sent groups later group b own made count eo new h k lt =
    let B : ℕ → Bounds → Type 0 = λ n c. All (λ i. IsWithin c (row_at rows i) (slice_index sent i)) (group_at places n) in
    let Q : List ℕ → Type 0 = λ is. All (λ i. IsWithin b (row_at rows i) (slice_index sent i)) is in
    let L : List Bounds → Type 0 = λ l. B k (slice_index_or l k no_bounds) in
    let long : length later ≡ length groups + 1 = ap (λ (l : List Bounds). length l) made ∙ length-append groups (b ∷ []) in
    subst L (sym made) (elim (cases_lt k (length groups)) [
      | inl less ↦ subst (B k) (sym (get_or_append_left groups (b ∷ []) no_bounds k less)) (h k less)
      | inr ge ↦
          let here : length groups ≡ k = omega arith in
          let same : group ≡ k = omega arith in
          let N : ℕ → Type 0 = λ n. B n b in
          subst (B k) (sym (get_or_push groups b no_bounds k here)) (subst N same (subst Q eo new))
    ])
