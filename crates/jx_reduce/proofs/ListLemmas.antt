-- Lists: the first place at which a test passes, what a filter keeps, and lists that are joined.
use Rattle.std.proofs.Common.{◌≡◌, ℕ, zero, suc, ◌+◌, ◌-◌, ◌≤◌, ◌<◌, Bool, true, false, not, nat_lt, List, [], ◌∷◌, ◌++◌, length, map, inl, inr, ◌∙◌, ap, sym, refl, add-one, arith, slice_index_or, append-nil, Some, None}
use Rattle.std.specs.List.{All, filter, find, position, position_or_len}
use Rattle.std.proofs.lemmas.Bool.{cases_Bool, cases_eq, cases_lt}
use Rattle.std.proofs.lemmas.Bool.Decides.{nat_tests}
use Rattle.std.proofs.lemmas.List.{get_or_default}
use Rattle.std.proofs.lemmas.List.Elements.{All-head, All-tail, filter-append}
use Rattle.std.proofs.lemmas.List.Sums.{prefix_len_passes, prefix_len_stops}
use Rattle.jx_base.specs.Joined.{joined, joined_below}
use Rattle.jx_base.proofs.Joined.{joined_none, joined_next, joined_same}

-- ---- a filter
below_filter : {X : Type 0} (p : X → Bool) (f : ℕ → List X) (a n : ℕ) → filter p (joined_below f a n) ≡ joined_below (λ i. filter p (f i)) a n
below_filter p f a zero = refl
below_filter {X} p f a (suc n) =
    filter-append p (joined_below f a n) (f (a + n)) ∙ ap (λ (xs : List X). xs ++ filter p (f (a + n))) (below_filter p f a n)

pub joined_filter : {X : Type 0} (p : X → Bool) (f : ℕ → List X) (a b : ℕ) → filter p (joined f a b) ≡ joined (λ i. filter p (f i)) a b
unfolding joined
joined_filter p f a b = below_filter p f a (b - a)

pub filter_whole : {X : Type 0} (p : X → Bool) (xs : List X) → All (λ x. p x ≡ true) xs → filter p xs ≡ xs
filter_whole p [] h = refl
filter_whole {X} p (x ∷ xs) h =
    rw (All-head (λ (y : X). p y ≡ true) x xs h) (ap (λ (ys : List X). x ∷ ys) (filter_whole p xs (All-tail (λ (y : X). p y ≡ true) x xs h)))

pub filter_none : {X : Type 0} (p : X → Bool) (xs : List X) → All (λ x. p x ≡ false) xs → filter p xs ≡ []
filter_none p [] h = refl
filter_none {X} p (x ∷ xs) h = rw (All-head (λ (y : X). p y ≡ false) x xs h) (filter_none p xs (All-tail (λ (y : X). p y ≡ false) x xs h))

pub filter_map_of : {X Y : Type 0} (p : Y → Bool) (f : X → Y) (xs : List X) → map f (filter (λ x. p (f x)) xs) ≡ filter p (map f xs)
filter_map_of p f [] = refl
filter_map_of {X} {Y} p f (x ∷ xs) = elim (cases_Bool (p (f x))) [
  | inl t ↦ rw t (ap (λ (ys : List Y). f x ∷ ys) (filter_map_of p f xs))
  | inr n ↦ rw n (filter_map_of p f xs)
]

-- what a test finds in a filter that keeps all that passes it, and in one that keeps nothing of it
pub found_in : {X : Type 0} (q p : X → Bool) (xs : List X) → ((x : X) → q x ≡ true → p x ≡ true) → find q (filter p xs) ≡ find q xs
found_in q p [] h = refl
found_in {X} q p (x ∷ xs) h = elim (cases_Bool (p x)) [
  | inl keep ↦ rw keep (elim (cases_Bool (q x)) [
    | inl here ↦ rw here refl
    | inr past ↦ rw past (found_in q p xs h)
  ])
  | inr drops ↦ elim (cases_Bool (q x)) [
    | inl here ↦ absurd (let e : p x ≡ true = h x here in cc)
    | inr past ↦ rw (drops, past) (found_in q p xs h)
  ]
]

pub found_none : {X : Type 0} (q p : X → Bool) (xs : List X) → ((x : X) → q x ≡ true → p x ≡ false) → find q (filter p xs) ≡ None
found_none q p [] h = refl
found_none {X} q p (x ∷ xs) h = elim (cases_Bool (p x)) [
  | inl keep ↦ rw keep (elim (cases_Bool (q x)) [
    | inl here ↦ absurd (let e : p x ≡ false = h x here in cc)
    | inr past ↦ rw past (found_none q p xs h)
  ])
  | inr drops ↦ rw drops (found_none q p xs h)
]

-- ---- a joined list of which the later lists are empty
pub joined_front : {X : Type 0} (f h : ℕ → List X) (m n : ℕ) → m ≤ n → ((i : ℕ) → i < m → f i ≡ h i) → ((i : ℕ) → m ≤ i → i < n → f i ≡ []) → joined f 0 n ≡ joined h 0 m
joined_front f h m zero le same none = let e : m ≡ 0 = omega arith in rw e (joined_none f 0 0 (omega arith) ∙ sym (joined_none h 0 0 (omega arith)))
joined_front {X} f h m (suc n) le same none = elim (cases_eq m (suc n)) [
  | inl last ↦ joined_same f h (suc n) (λ i lt. same i (omega arith)) ∙ ap (λ (k : ℕ). joined h 0 k) (sym last)
  | inr later ↦
      let next : joined f 0 (n + 1) ≡ joined f 0 n ++ f n = joined_next f 0 n (omega arith) in
      let next' : joined f 0 (suc n) ≡ joined f 0 n ++ f n = rw add-one at next in
      next' ∙ ap (λ (xs : List X). joined f 0 n ++ xs) (none n (omega arith) (omega arith)) ∙ append-nil (joined f 0 n)
      ∙ joined_front f h m n (omega arith) same (λ i from below. none i from (omega arith))
]

-- tests that agree on a list keep the same of it
pub filter_same : {X : Type 0} (p q : X → Bool) (xs : List X) → All (λ x. p x ≡ q x) xs → filter p xs ≡ filter q xs
filter_same p q [] h = refl
filter_same {X} p q (x ∷ xs) h =
    let more : filter p xs ≡ filter q xs = filter_same p q xs (All-tail (λ (y : X). p y ≡ q y) x xs h) in
    rw (All-head (λ (y : X). p y ≡ q y) x xs h) (elim (cases_Bool (q x)) [
      | inl t ↦ rw t (ap (λ (ys : List X). x ∷ ys) more)
      | inr n ↦ rw n more
    ])

pub filter_few : {X : Type 0} (p : X → Bool) (xs : List X) → length (filter p xs) ≤ length xs
filter_few p [] = omega arith
filter_few {X} p (x ∷ xs) = elim (cases_Bool (p x)) [
  | inl t ↦ rw t (let more : length (filter p xs) ≤ length xs = filter_few p xs in omega arith)
  | inr n ↦ rw n (let more : length (filter p xs) ≤ length xs = filter_few p xs in omega arith)
]

-- ---- places
first_place : {X : Type 0} (p : X → Bool) (xs : List X) (i : ℕ) (d : X) → i < length xs → p (slice_index_or xs i d) ≡ true → ((k : ℕ) → k < i → p (slice_index_or xs k d) ≡ false) → Some i ≡ position p xs
first_place {X} p xs i d inside here before =
    let q : X → Bool = λ x. not (p x) in
    let n : ℕ = position_or_len p xs in
    elim (cases_lt n i) [
      | inl lt ↦
          let stop : q (slice_index_or xs n d) ≡ false = prefix_len_stops q xs d (omega (arith, lt, inside)) in
          absurd (let e = rw (before n lt) at stop in cc)
      | inr ge ↦ elim (cases_lt i n) [
        | inl lt ↦
            let pass : q (slice_index_or xs i d) ≡ true = prefix_len_passes q xs i d lt in
            absurd (let e = rw here at pass in cc)
        | inr le ↦
            let same : i ≡ n = omega arith in
            let test : nat_lt n (length xs) ≡ true = grind (arith, nat_tests) in
            rw test (ap Some same)
      ]
    ]

pub place_at : {X : Type 0} (p : X → Bool) (xs : List X) (i : ℕ) (x d : X) → i < length xs → x ≡ slice_index_or xs i x → p x ≡ true
    → ((k : ℕ) → k < i → p (slice_index_or xs k d) ≡ false) → Some i ≡ position p xs
place_at {X} p xs i x d inside is here before =
    let same : x ≡ slice_index_or xs i d = is ∙ get_or_default xs i x d inside in
    first_place p xs i d inside (ap p (sym same) ∙ here) before

pub no_place : {X : Type 0} (p : X → Bool) (xs : List X) (d : X) → ((k : ℕ) → k < length xs → p (slice_index_or xs k d) ≡ false) → None ≡ position p xs
no_place {X} p xs d none =
    let q : X → Bool = λ x. not (p x) in
    let n : ℕ = position_or_len p xs in
    elim (cases_lt n (length xs)) [
      | inl lt ↦
          let stop : q (slice_index_or xs n d) ≡ false = prefix_len_stops q xs d lt in
          absurd (let e = rw (none n lt) at stop in cc)
      | inr ge ↦
          let test : nat_lt n (length xs) ≡ false = grind (arith, nat_tests) in
          rw test refl
    ]

pub place_by : {X : Type 0} (p : X → Bool) (xs : List X) (i : ℕ) (e d : X) → i < length xs → true ≡ p (slice_index_or xs i e) → ((k : ℕ) → k < i → p (slice_index_or xs k d) ≡ false) → Some i ≡ position p xs
place_by {X} p xs i e d inside here before =
    let same : slice_index_or xs i e ≡ slice_index_or xs i d = get_or_default xs i e d inside in
    first_place p xs i d inside (ap p (sym same) ∙ sym here) before
