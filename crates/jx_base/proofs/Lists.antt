-- Lists item by item: what a list has, what holds of each item and of each pair, and lists one after another.
use Rattle.std.proofs.Common.{◌≡◌, ◌≢◌, ℕ, zero, suc, ◌+◌, ◌-◌, ◌<◌, ◌≤◌, List, [], ◌∷◌, ◌++◌, inl, inr, ◌⊎◌, ◌∙◌, ap, sym, subst, refl, add-one, arith, length, get_or, set, append_assoc, length-append, Bool, true, false, Option, Some, None}
use Rattle.std.specs.List.{All, AllPairs, Contains, find, flat_map, list_all, list_any, range_with_len, slice_get}
use Rattle.std.proofs.Math.ListN.{get_or-append}
use Rattle.std.proofs.Math.Seq.{get_or-append_right}
use Rattle.std.proofs.lemmas.Bool.{cases_lt, cases_Bool, and_parts, or_parts}
use Rattle.std.proofs.lemmas.List.{get_or_append_left}
use Rattle.std.proofs.lemmas.List.Elements.{All-nil, All-cons, Contains-append_right, Contains-get_or}
use Rattle.std.proofs.lemmas.Option.{get_or_from_slice_get, none-some, same_Some, slice_get_within}

-- ---- what a list has, by its first item
at_cons : {X : Type 0} (x : X) (xs : List X) (y : X) (k : ℕ) → k < length (x ∷ xs) → get_or (x ∷ xs) k y ≡ y → (x ≡ y) ⊎ Contains xs y
at_cons x xs y zero lt e = inl e
at_cons x xs y (suc k) lt e = inr (k, omega arith, e)

pub contains_cons : {X : Type 0} (x : X) (xs : List X) (y : X) → Contains (x ∷ xs) y → (x ≡ y) ⊎ Contains xs y
contains_cons x xs y h = at_cons x xs y h.0 h.1 h.2

pub contains_head : {X : Type 0} (x : X) (xs : List X) → Contains (x ∷ xs) x
contains_head x xs = (zero, omega arith, refl)

pub contains_tail : {X : Type 0} (x : X) (xs : List X) (y : X) → Contains xs y → Contains (x ∷ xs) y
contains_tail x xs y h = (suc h.0, omega (arith, h.1), h.2)

pub contains_none : {X : Type 0} (y : X) → Contains [] y → ⊥
contains_none y h = omega (arith, h.1)

pub pairs_tail : {X : Type 0} (R : X → X → Type 0) (x : X) (xs : List X) → AllPairs R (x ∷ xs) → AllPairs R xs
pairs_tail R x xs h i j d lt below = h (suc i) (suc j) d (omega arith) (omega arith)

pub pairs_head : {X : Type 0} (R : X → X → Type 0) (x : X) (xs : List X) (y : X) → AllPairs R (x ∷ xs) → Contains xs y → R x y
pairs_head {X} R x xs y h c =
    let P : X → Type 0 = λ z. R x z in
    subst P c.2 (h zero (suc c.0) y (omega arith) (omega (arith, c.1)))

-- ---- numbers one after another
pub range_next : (i n : ℕ) → i < n → range_with_len i (n - i) ≡ i ∷ range_with_len (i + 1) (n - (i + 1))
range_next i n h =
    let e : n - i ≡ suc (n - (i + 1)) = omega arith in
    ap (λ (m : ℕ). range_with_len i m) e

pub range_push : (a n : ℕ) → range_with_len a (n + 1) ≡ range_with_len a n ++ (a + n) ∷ []
range_push a zero = let e : a ≡ a + 0 = omega arith in ap (λ (x : ℕ). x ∷ []) e
range_push a (suc n) =
    let e : a + 1 + n ≡ a + suc n = omega arith in
    let m : suc n + 1 ≡ suc (n + 1) = omega arith in
    ap (range_with_len a) m ∙ ap (λ (xs : List ℕ). a ∷ xs) (range_push (a + 1) n ∙ ap (λ (x : ℕ). range_with_len (a + 1) n ++ x ∷ []) e)

-- ---- the first number of a range that passes a test
pub find_on : (f : ℕ → Bool) (n k more : ℕ) → k ≡ suc more → f n ≡ false → find f (range_with_len n k) ≡ find f (range_with_len (n + 1) more)
find_on f n k more is test = rw (is, test) refl

pub find_in : (f : ℕ → Bool) (a k n : ℕ) → find f (range_with_len a k) ≡ Some n → (a ≤ n) × (n < a + k) × (f n ≡ true)
find_in f a zero n e = absurd (none-some n e)
find_in f a (suc k) n e = elim (cases_Bool (f a)) [
  | inl t ↦
      let is : a ≡ n = same_Some a n (rw t at e) in
      (omega (arith, is), omega (arith, is), subst (λ m. f m ≡ true) is t)
  | inr t ↦
      let more = find_in f (a + 1) k n (rw t at e) in
      (omega (arith, more.0), omega (arith, more.1), more.2)
]

pub find_first : (f : ℕ → Bool) (a k n : ℕ) → a ≤ n → n < a + k → f n ≡ true → ((m : ℕ) → m < n → f m ≡ true → ⊥) → find f (range_with_len a k) ≡ Some n
find_first f a zero n from below test first = absurd (omega arith)
find_first f a (suc k) n from below test first = elim (cases_Bool (f a)) [
  | inl t ↦ elim (cases_lt a n) [
    | inl lt ↦ absurd (first a lt t)
    | inr ge ↦ let is : a ≡ n = omega arith in rw t (ap Some is)
  ]
  | inr t ↦ elim (cases_lt a n) [
    | inl lt ↦ rw t (find_first f (a + 1) k n (omega arith) (omega arith) test first)
    | inr ge ↦
        let is : a ≡ n = omega arith in
        let no_test : f n ≡ false = subst (λ m. f m ≡ false) is t in
        absurd (cc)
  ]
]

-- ---- lists one after another
-- an item of a list that is followed by another, and of the other
pub get_left : {X : Type 0} (xs ys : List X) (i : ℕ) → i < length xs → slice_get (xs ++ ys) i ≡ slice_get xs i
get_left [] ys i lt = absurd (omega arith)
get_left (x ∷ xs) ys zero lt = refl
get_left (x ∷ xs) ys (suc i) lt = get_left xs ys i (omega arith)

pub get_right : {X : Type 0} (xs ys : List X) (n i : ℕ) → n ≡ length xs + i → slice_get (xs ++ ys) n ≡ slice_get ys i
get_right [] ys n i e = let same : n ≡ i = omega arith in ap (λ m. slice_get ys m) same
get_right (x ∷ xs) ys zero i e = absurd (omega arith)
get_right (x ∷ xs) ys (suc n) i e = get_right xs ys n i (omega arith)

pub push_on : {X : Type 0} (xs ys : List X) (x : X) → (xs ++ x ∷ []) ++ ys ≡ xs ++ (x ∷ ys)
push_on xs ys x = append_assoc xs (x ∷ []) ys

pub head_same : {X : Type 0} (x y : X) (xs ys : List X) → x ∷ xs ≡ y ∷ ys → x ≡ y
head_same x y xs ys e = cc

pub tail_same : {X : Type 0} (x y : X) (xs ys : List X) → x ∷ xs ≡ y ∷ ys → xs ≡ ys
tail_same x y xs ys e = cc

-- ---- an item that is there or not
pub some_none : {X : Type 0} (x : X) → Some x ≡ None → ⊥
some_none x e = cc

-- ---- what holds of each item holds of that at a place
pub all_at : {X : Type 0} (P : X → Type 0) (xs : List X) (i : ℕ) (x : X) → All P xs → slice_get xs i ≡ Some x → P x
all_at P xs i x each is = subst P (get_or_from_slice_get xs i x x is) (each i x (slice_get_within xs i x is))

pub all_from : {X : Type 0} (P : X → Type 0) (xs : List X) → ((i : ℕ) (x : X) → slice_get xs i ≡ Some x → P x) → All P xs
all_from P [] each = All-nil P
all_from P (x ∷ xs) each = All-cons P x xs (each 0 x refl) (all_from P xs (λ i y is. each (suc i) y is))

-- ---- an item that is set
pub get-set_same : {X : Type 0} (xs : List X) (i : ℕ) (y : X) → i < length xs → slice_get (set xs i y) i ≡ Some y
get-set_same [] i y lt = absurd (omega arith)
get-set_same (x ∷ xs) zero y lt = refl
get-set_same (x ∷ xs) (suc i) y lt = get-set_same xs i y (omega arith)

pub get-set_other : {X : Type 0} (xs : List X) (i j : ℕ) (y : X) → (j ≡ i → ⊥) → slice_get (set xs i y) j ≡ slice_get xs j
get-set_other [] i j y ne = refl
get-set_other (x ∷ xs) zero zero y ne = absurd (ne refl)
get-set_other (x ∷ xs) zero (suc j) y ne = refl
get-set_other (x ∷ xs) (suc i) zero y ne = refl
get-set_other (x ∷ xs) (suc i) (suc j) y ne = get-set_other xs i j y (λ (e : j ≡ i). ne (ap suc e))

-- ---- lists with the same items are one
pub same_gets : {X : Type 0} (xs ys : List X) → length xs ≡ length ys → ((i : ℕ) → i < length xs → slice_get xs i ≡ slice_get ys i) → xs ≡ ys
same_gets [] [] l h = refl
same_gets [] (y ∷ ys) l h = absurd (omega arith)
same_gets (x ∷ xs) [] l h = absurd (omega arith)
same_gets {X} (x ∷ xs) (y ∷ ys) l h =
    let first : ◌≡◌ {A = Option X} (Some x) (Some y) = h 0 (omega arith) in
    let head : x ≡ y = cc in
    let rest : xs ≡ ys = same_gets xs ys (omega arith) (λ (i : ℕ) (lt : i < length xs). h (suc i) (omega arith)) in
    cc

-- ---- what holds of each item
pub all_pass : {X : Type 0} (p : X → Bool) (xs : List X) → list_all p xs ≡ true → All (λ (x : X). p x ≡ true) xs
all_pass {X} p [] h = All-nil (λ (x : X). p x ≡ true)
all_pass {X} p (x ∷ xs) h = let e = and_parts (p x) (list_all p xs) h in All-cons (λ (y : X). p y ≡ true) x xs e.0 (all_pass p xs e.1)

pub none_passes : {X : Type 0} (p : X → Bool) (xs : List X) → list_any p xs ≡ false → All (λ (x : X). p x ≡ false) xs
none_passes {X} p [] h = All-nil (λ (x : X). p x ≡ false)
none_passes {X} p (x ∷ xs) h = let e = or_parts (p x) (list_any p xs) h in All-cons (λ (y : X). p y ≡ false) x xs e.0 (none_passes p xs e.1)

pub find_none : {X : Type 0} (p : X → Bool) (xs : List X) → find p xs ≡ None → All (λ (x : X). p x ≡ false) xs
find_none {X} p [] h = All-nil (λ (x : X). p x ≡ false)
find_none {X} p (x ∷ xs) h = elim (cases_Bool (p x)) [
  | inl t ↦ let e = rw t at h in absurd (cc)
  | inr f ↦ All-cons (λ (y : X). p y ≡ false) x xs f (find_none p xs (rw f at h))
]

pub All-left : {X : Type 0} (P : X → Type 0) (xs ys : List X) → All P (xs ++ ys) → All P xs
All-left P xs ys h k d inside = subst P (get_or_append_left xs ys d k inside) (h k d (omega (arith, length-append xs ys)))

pub All-right : {X : Type 0} (P : X → Type 0) (xs ys : List X) → All P (xs ++ ys) → All P ys
All-right P xs ys h k d inside =
    let here : length xs + k < length (xs ++ ys) = omega (arith, length-append xs ys) in
    let same : length xs + k - length xs ≡ k = omega arith in
    subst P (get_or-append_right xs ys (length xs + k) d (omega arith) ∙ ap (λ (n : ℕ). get_or ys n d) same) (h (length xs + k) d here)

-- what holds of a list of lists joined holds of each
pub All-flat : {X A : Type 0} (P : A → Type 0) (f : X → List A) (xs : List X) → All P (flat_map f xs) → All (λ (x : X). All P (f x)) xs
All-flat {X} P f [] h = All-nil (λ (x : X). All P (f x))
All-flat {X} P f (x ∷ xs) h = All-cons (λ (y : X). All P (f y)) x xs (All-left P (f x) (flat_map f xs) h) (All-flat P f xs (All-right P (f x) (flat_map f xs) h))

-- ---- what holds of each pair
-- two lists one after the other, of which each pair has a relation
pub pairs_append : {X : Type 0} (R : X → X → Type 0) (xs ys : List X) → AllPairs R xs → AllPairs R ys
    → ((x y : X) → Contains xs x → Contains ys y → R x y) → AllPairs R (xs ++ ys)
pairs_append {X} R xs ys hx hy across i j d lt below = elim (cases_lt j (length xs)) [
  | inl left ↦
      let first : i < length xs = omega arith in
      let e = get_or-append xs ys d i first in
      let e2 = get_or-append xs ys d j left in
      rw (e, e2) (hx i j d lt left)
  | inr right ↦
      let e2 : get_or (xs ++ ys) j d ≡ get_or ys (j - length xs) d = get_or-append_right xs ys j d right in
      let inside : j - length xs < length ys = omega (arith, length-append xs ys) in
      elim (cases_lt i (length xs)) [
        | inl first ↦
            let e = get_or-append xs ys d i first in
            rw (e, e2) (across (get_or xs i d) (get_or ys (j - length xs) d) (Contains-get_or xs i d first) (Contains-get_or ys (j - length xs) d inside))
        | inr second ↦
            let e : get_or (xs ++ ys) i d ≡ get_or ys (i - length xs) d = get_or-append_right xs ys i d second in
            let less : i - length xs < j - length xs = omega arith in
            rw (e, e2) (hy (i - length xs) (j - length xs) d less inside)
      ]
]

-- a pair of items in two lists one after another
pub pairs_across : {X : Type 0} (R : X → X → Type 0) (xs ys : List X) (x y : X) → AllPairs R (xs ++ ys) → Contains xs x → Contains ys y → R x y
pairs_across R [] ys x y h cx cy = absurd (contains_none x cx)
pairs_across {X} R (z ∷ zs) ys x y h cx cy = elim (contains_cons z zs x cx) [
  | inl e ↦
      let P : X → Type 0 = λ w. R w y in
      subst P e (pairs_head R z (zs ++ ys) y h (Contains-append_right zs ys y cy))
  | inr rest ↦ pairs_across R zs ys x y (pairs_tail R z (zs ++ ys) h) rest cy
]

pub pairs_back : {X : Type 0} (R : X → X → Type 0) (xs ys : List X) → AllPairs R (xs ++ ys) → AllPairs R ys
pairs_back R [] ys h = h
pairs_back R (z ∷ zs) ys h = pairs_back R zs ys (pairs_tail R z (zs ++ ys) h)

-- neighbours in an order that goes on are enough
pub pairs_from_next : {X : Type 0} (R : X → X → Type 0) → ((x y z : X) → R x y → R y z → R x z) → (xs : List X)
    → ((k : ℕ) (d : X) → k + 1 < length xs → R (get_or xs k d) (get_or xs (k + 1) d)) → AllPairs R xs
pairs_from_next {X} R trans xs next i zero d lt below = absurd (omega arith)
pairs_from_next {X} R trans xs next i (suc j) d lt below = elim (cases_lt i j) [
  | inl less ↦
      let before : R (get_or xs i d) (get_or xs j d) = pairs_from_next R trans xs next i j d less (omega arith) in
      let step : R (get_or xs j d) (get_or xs (j + 1) d) = next j d (omega arith) in
      rw add-one at (trans (get_or xs i d) (get_or xs j d) (get_or xs (j + 1) d) before step)
  | inr ge ↦
      let e : i ≡ j = omega arith in
      let step : R (get_or xs i d) (get_or xs (i + 1) d) = next i d (omega arith) in
      let P : ℕ → Type 0 = λ m. R (get_or xs i d) (get_or xs m d) in
      let same : i + 1 ≡ suc j = omega arith in
      subst P same step
]

-- ---- two lists that are sorted by a relation that never holds both ways, and have the same items, are one
pub one_sorted : {X : Type 0} (R : X → X → Type 0) → ((x y : X) → R x y → R y x → ⊥) → (xs ys : List X) → AllPairs R xs → AllPairs R ys
    → ((x : X) → Contains xs x → Contains ys x) → ((x : X) → Contains ys x → Contains xs x) → xs ≡ ys
one_sorted R one [] [] hx hy to from = refl
one_sorted R one [] (y ∷ ys) hx hy to from = absurd (contains_none y (from y (contains_head y ys)))
one_sorted R one (x ∷ xs) [] hx hy to from = absurd (contains_none x (to x (contains_head x xs)))
one_sorted {X} R one (x ∷ xs) (y ∷ ys) hx hy to from =
    let irreflexive : (z : X) → R z z → ⊥ = λ z r. one z z r r in
    let same : x ≡ y = elim (contains_cons y ys x (to x (contains_head x xs))) [
      | inl e ↦ sym e
      | inr c ↦ elim (contains_cons x xs y (from y (contains_head y ys))) [
        | inl e ↦ e
        | inr d ↦ absurd (one x y (pairs_head R x xs y hx d) (pairs_head R y ys x hy c))
      ]
    ] in
    let forth : (z : X) → Contains xs z → Contains ys z = λ z c. elim (contains_cons y ys z (to z (contains_tail x xs z c))) [
      | inl e ↦
          let r : R x z = pairs_head R x xs z hx c in
          let P : X → Type 0 = λ w. R w z in
          absurd (irreflexive z (subst P (same ∙ e) r))
      | inr d ↦ d
    ] in
    let back : (z : X) → Contains ys z → Contains xs z = λ z c. elim (contains_cons x xs z (from z (contains_tail y ys z c))) [
      | inl e ↦
          let r : R y z = pairs_head R y ys z hy c in
          let P : X → Type 0 = λ w. R w z in
          absurd (irreflexive z (subst P (sym same ∙ e) r))
      | inr d ↦ d
    ] in
    let rest : xs ≡ ys = one_sorted R one xs ys (pairs_tail R x xs hx) (pairs_tail R y ys hy) forth back in
    cc

-- and no item stands in one twice
pub pairs_apart : {X : Type 0} (R : X → X → Type 0) → ((x y : X) → R x y → R y x → ⊥) → (xs : List X) → AllPairs R xs → AllPairs (λ x y. x ≢ y) xs
pairs_apart {X} R one xs h i j d lt below e =
    let r : R (get_or xs i d) (get_or xs j d) = h i j d lt below in
    let P : X → Type 0 = λ w. R w (get_or xs j d) in
    let s : R (get_or xs j d) (get_or xs j d) = subst P e r in
    one (get_or xs j d) (get_or xs j d) s s
