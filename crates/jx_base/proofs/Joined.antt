-- Lists that are joined from those of a number and the next ones.
use Rattle.std.proofs.Common.{◌≡◌, ℕ, zero, suc, ◌+◌, ◌-◌, ◌≤◌, ◌<◌, List, [], ◌++◌, inl, inr, ◌∙◌, ap, sym, subst, refl, add-one, arith, length, max, append_assoc, append-nil, length-append}
use Rattle.std.specs.List.{All, AllPairs, Contains, slice_get}
use Rattle.std.proofs.lemmas.Bool.{cases_lt}
use Rattle.std.proofs.lemmas.List.Elements.{All-append, Contains-append_left, Contains-append_right, Contains-append_cases}
use Rattle.jx_base.specs.Joined.{joined, joined_below, JoinedAt, sum_below}
use Rattle.jx_base.proofs.Lists.{get_left, get_right, pairs_append}
use Rattle.jx_base.proofs.Sums.{sum_below_more}

pub joined_none : {X : Type 0} (f : ℕ → List X) (a b : ℕ) → b ≤ a → joined f a b ≡ []
unfolding joined
joined_none f a b h = let e : b - a ≡ 0 = omega arith in rw e refl

pub joined_next : {X : Type 0} (f : ℕ → List X) (a b : ℕ) → a ≤ b → joined f a (b + 1) ≡ joined f a b ++ f b
unfolding joined
joined_next f a b h =
    let e : (b + 1) - a ≡ suc (b - a) = omega arith in
    let same : a + (b - a) ≡ b = omega arith in
    rw e (rw same refl)

-- nothing, joined
below_empty : {X : Type 0} (f : ℕ → List X) (a n : ℕ) → ((i : ℕ) → f i ≡ []) → joined_below f a n ≡ []
below_empty f a zero h = refl
below_empty {X} f a (suc n) h =
    let before : joined_below f a n ≡ [] = below_empty f a n h in
    let last : f (a + n) ≡ [] = h (a + n) in
    rw (before, last) refl

pub joined_empty : {X : Type 0} (f : ℕ → List X) (a b : ℕ) → ((i : ℕ) → f i ≡ []) → joined f a b ≡ []
unfolding joined
joined_empty f a b h = below_empty f a (b - a) h

-- the steps of a loop that appends: before the first, one more, and after the last
pub appends_none : {X : Type 0} (base : List X) (f : ℕ → List X) (a b : ℕ) → b ≤ a → base ≡ base ++ joined f a b
appends_none base f a b h = let e = joined_none f a b h in rw e (sym (append-nil base))

pub appends_next : {X : Type 0} (base xs ys : List X) (f : ℕ → List X) (a b : ℕ) → a ≤ b
    → xs ≡ base ++ joined f a b → ys ≡ xs ++ f b → ys ≡ base ++ joined f a (b + 1)
appends_next base xs ys f a b h before step =
    step ∙ (ap (λ zs. zs ++ f b) before ∙ (append_assoc base (joined f a b) (f b) ∙ ap (λ zs. base ++ zs) (sym (joined_next f a b h))))

pub appends_all : {X : Type 0} (base xs : List X) (f : ℕ → List X) (a b n : ℕ) → a ≤ n → b ≤ n → n ≤ max a b
    → xs ≡ base ++ joined f a n → xs ≡ base ++ joined f a b
appends_all base xs f a b n ha hb hn before = elim (cases_lt a b) [
  | inl some ↦ let e : n ≡ b = omega arith in before ∙ ap (λ m. base ++ joined f a m) e
  | inr none ↦
      let e : n ≤ a = omega arith in
      before ∙ ap (λ zs. base ++ zs) (joined_none f a n e ∙ sym (joined_none f a b none))
]

-- the same from an empty list on
pub makes_next : {X : Type 0} (xs ys : List X) (f : ℕ → List X) (a b : ℕ) → a ≤ b
    → xs ≡ joined f a b → ys ≡ xs ++ f b → ys ≡ joined f a (b + 1)
makes_next xs ys f a b h before step = step ∙ (ap (λ zs. zs ++ f b) before ∙ sym (joined_next f a b h))

-- what a joined list has, and back
below_has : {X : Type 0} (f : ℕ → List X) (a n : ℕ) (x : X) → Contains (joined_below f a n) x → (i : ℕ) × (i < n) × Contains (f (a + i)) x
below_has f a zero x h = absurd (omega (arith, h.1))
below_has f a (suc n) x h = elim (Contains-append_cases (joined_below f a n) (f (a + n)) x h) [
  | inl old ↦ let d = below_has f a n x old in (d.0, omega (arith, d.1), d.2)
  | inr new ↦ (n, omega arith, new)
]

below_from : {X : Type 0} (f : ℕ → List X) (a n : ℕ) (x : X) (i : ℕ) → i < n → Contains (f (a + i)) x → Contains (joined_below f a n) x
below_from f a zero x i lt h = absurd (omega arith)
below_from {X} f a (suc n) x i lt h = elim (cases_lt i n) [
  | inl old ↦ Contains-append_left (joined_below f a n) (f (a + n)) x (below_from f a n x i old h)
  | inr new ↦
      let e : i ≡ n = omega arith in
      let P : ℕ → Type 0 = λ m. Contains (f (a + m)) x in
      Contains-append_right (joined_below f a n) (f (a + n)) x (subst P e h)
]

pub joined_has : {X : Type 0} (f : ℕ → List X) (a b : ℕ) (x : X) → Contains (joined f a b) x → JoinedAt f a b x
unfolding joined
joined_has f a b x h = let d = below_has f a (b - a) x h in record { number = a + d.0; from = omega arith; below = omega (arith, d.1); has = d.2 }

pub joined_from : {X : Type 0} (f : ℕ → List X) (a b : ℕ) (x : X) → JoinedAt f a b x → Contains (joined f a b) x
unfolding joined
joined_from {X} f a b x h =
    let e : h.number ≡ a + (h.number - a) = omega (arith, h.from) in
    let P : ℕ → Type 0 = λ m. Contains (f m) x in
    below_from f a (b - a) x (h.number - a) (omega (arith, h.from, h.below)) (subst P e h.has)

below_pairs : {X : Type 0} (R : X → X → Type 0) (f : ℕ → List X) (a n : ℕ) → ((i : ℕ) → i < n → AllPairs R (f (a + i)))
    → ((i j : ℕ) (x y : X) → i < j → j < n → Contains (f (a + i)) x → Contains (f (a + j)) y → R x y) → AllPairs R (joined_below f a n)
below_pairs {X} R f a zero each across = λ i j d lt below. absurd (omega arith)
below_pairs {X} R f a (suc n) each across =
    pairs_append R (joined_below f a n) (f (a + n))
    (below_pairs R f a n (λ i h. each i (omega arith)) (λ i j x y lt h hx hy. across i j x y lt (omega arith) hx hy))
    (each n (omega arith))
    (λ x y hx hy. let d = below_has f a n x hx in across d.0 n x y d.1 (omega arith) d.2 hy)

pub joined_pairs : {X : Type 0} (R : X → X → Type 0) (f : ℕ → List X) (a b : ℕ) → ((i : ℕ) → AllPairs R (f i))
    → ((i j : ℕ) (x y : X) → i < j → Contains (f i) x → Contains (f j) y → R x y) → AllPairs R (joined f a b)
unfolding joined
joined_pairs R f a b each across =
    below_pairs R f a (b - a) (λ i h. each (a + i)) (λ i j x y lt h hx hy. across (a + i) (a + j) x y (omega arith) hx hy)

-- how long a joined list is, and the item of a list in it
pub joined_length : {X : Type 0} (f : ℕ → List X) (count : ℕ → ℕ) (n : ℕ) → ((i : ℕ) → length (f i) ≡ count i)
    → length (joined f 0 n) ≡ sum_below count n
joined_length f count zero h = ap (λ xs. length xs) (joined_none f 0 0 (omega arith))
joined_length {X} f count (suc n) h =
    let before : length (joined f 0 n) ≡ sum_below count n = joined_length f count n h in
    let next : joined f 0 (n + 1) ≡ joined f 0 n ++ f n = joined_next f 0 n (omega arith) in
    let next' : joined f 0 (suc n) ≡ joined f 0 n ++ f n = rw add-one at next in
    let e : length (joined f 0 (suc n)) ≡ length (joined f 0 n ++ f n) = ap (λ (xs : List X). length xs) next' in
    omega (arith, length-append (joined f 0 n) (f n), h n)

pub joined_at : {X : Type 0} (f : ℕ → List X) (count : ℕ → ℕ) (n i j : ℕ) → ((i : ℕ) → length (f i) ≡ count i)
    → i < n → j < count i → slice_get (joined f 0 n) (sum_below count i + j) ≡ slice_get (f i) j
joined_at f count zero i j h lt inside = absurd (omega arith)
joined_at {X} f count (suc n) i j h lt inside =
    let next : joined f 0 (n + 1) ≡ joined f 0 n ++ f n = joined_next f 0 n (omega arith) in
    let next' : joined f 0 (suc n) ≡ joined f 0 n ++ f n = rw add-one at next in
    let long : length (joined f 0 n) ≡ sum_below count n = joined_length f count n h in
    let e : slice_get (joined f 0 (suc n)) (sum_below count i + j) ≡ slice_get (joined f 0 n ++ f n) (sum_below count i + j) =
    ap (λ (xs : List X). slice_get xs (sum_below count i + j)) next' in
    elim (cases_lt i n) [
      | inl earlier ↦
          let within : sum_below count i + j < length (joined f 0 n) = omega (arith, sum_below_more count i n earlier) in
          e ∙ get_left (joined f 0 n) (f n) (sum_below count i + j) within ∙ joined_at f count n i j h earlier inside
      | inr last ↦
          let same : i ≡ n = omega arith in
          let P : ℕ → Type 0 = λ m. slice_get (joined f 0 n ++ f n) (sum_below count m + j) ≡ slice_get (f m) j in
          e ∙ subst P (sym same) (get_right (joined f 0 n) (f n) (sum_below count n + j) j (omega arith))
    ]

-- what holds of each item of each list, and lists that are the same under each number
below_all : {X : Type 0} (P : X → Type 0) (f : ℕ → List X) (a n : ℕ) → ((i : ℕ) → i < n → All P (f (a + i))) → All P (joined_below f a n)
below_all P f a zero each = λ k d lt. absurd (omega arith)
below_all P f a (suc n) each = All-append P (joined_below f a n) (f (a + n)) (below_all P f a n (λ (i : ℕ) (lt : i < n). each i (omega arith))) (each n (omega arith))

pub joined_all : {X : Type 0} (P : X → Type 0) (f : ℕ → List X) (n : ℕ) → ((i : ℕ) → i < n → All P (f i)) → All P (joined f 0 n)
unfolding joined
joined_all {X} P f n each = below_all P f 0 (n - 0) (λ (i : ℕ) (lt : i < n - 0).
    (let e : i ≡ 0 + i = omega arith in
    let Q : ℕ → Type 0 = λ (m : ℕ). All P (f m) in
    subst Q e (each i (omega arith))))

below_same : {X : Type 0} (f h : ℕ → List X) (a n : ℕ) → ((i : ℕ) → i < n → f (a + i) ≡ h (a + i)) → joined_below f a n ≡ joined_below h a n
below_same f h a zero same = refl
below_same {X} f h a (suc n) same =
    let front : joined_below f a n ≡ joined_below h a n = below_same f h a n (λ i lt. same i (omega arith)) in
    ap (λ (xs : List X). xs ++ f (a + n)) front ∙ ap (λ (xs : List X). joined_below h a n ++ xs) (same n (omega arith))

pub joined_same : {X : Type 0} (f h : ℕ → List X) (n : ℕ) → ((i : ℕ) → i < n → f i ≡ h i) → joined f 0 n ≡ joined h 0 n
unfolding joined
joined_same {X} f h n same = below_same f h 0 (n - 0) (λ i lt.
    (let e : i ≡ 0 + i = omega arith in
    let P : ℕ → Type 0 = λ m. f m ≡ h m in
    subst P e (same i (omega arith))))

pub joined_one : {X : Type 0} (f : ℕ → List X) (n : ℕ) → n ≡ 1 → joined f 0 n ≡ f 0
unfolding joined
joined_one f n e = rw e refl
