-- The first item of a list that passes a test, where the list is joined of others.
use Rattle.std.proofs.Common.{◌≡◌, ◌∙◌, ℕ, zero, suc, ◌+◌, ◌<◌, ◌≤◌, List, [], ◌∷◌, ◌++◌, inl, inr, map, length, take, get_or, ap, sym, refl, add-one, arith, Bool, true, false, cond, Option, None, Some}
use Rattle.std.specs.List.{find, flat_map, slice_get}
use Rattle.std.specs.Option.{option_map, option_or}
use Rattle.std.proofs.lemmas.Bool.{cases_Bool, cases_lt}
use Rattle.std.proofs.lemmas.List.Folds.{find-append}
use Rattle.jx_base.specs.Joined.{joined}
use Rattle.jx_base.proofs.Joined.{joined_next, joined_none}

-- ---- of two lists: none in the first one, or one there
pub behind : {X : Type 0} (p : X → Bool) (xs ys : List X) (r : Option X) → find p xs ≡ None → find p ys ≡ r → find p (xs ++ ys) ≡ r
behind p xs ys r none more = find-append p xs ys ∙ ap (λ o. option_or o (find p ys)) none ∙ more

pub before : {X : Type 0} (p : X → Bool) (xs ys : List X) (x : X) → find p xs ≡ Some x → find p (xs ++ ys) ≡ Some x
before p xs ys x here = find-append p xs ys ∙ ap (λ o. option_or o (find p ys)) here

pub none_first : {X : Type 0} (a b : Option X) → option_or a b ≡ None → a ≡ None
none_first None b e = refl
none_first (Some x) b e = e

none_second : {X : Type 0} (a b : Option X) → option_or a b ≡ None → b ≡ None
none_second None b e = e
none_second (Some x) b e = absurd (cc)

pub none_left : {X : Type 0} (p : X → Bool) (xs ys : List X) → find p (xs ++ ys) ≡ None → find p xs ≡ None
none_left p xs ys e = none_first (find p xs) (find p ys) (sym (find-append p xs ys) ∙ e)

pub none_right : {X : Type 0} (p : X → Bool) (xs ys : List X) → find p (xs ++ ys) ≡ None → find p ys ≡ None
none_right p xs ys e = none_second (find p xs) (find p ys) (sym (find-append p xs ys) ∙ e)

-- ---- of lists under numbers
pub from_begins : {X : Type 0} (p : X → Bool) (f : ℕ → List X) (a b : ℕ) → b ≤ a → find p (joined f a b) ≡ None
from_begins p f a b le = ap (find p) (joined_none f a b le)

pub from_goes : {X : Type 0} (p : X → Bool) (f : ℕ → List X) (a n : ℕ) → a ≤ n → find p (joined f a n) ≡ None → find p (f n) ≡ None → find p (joined f a (n + 1)) ≡ None
from_goes p f a n le none here = ap (find p) (joined_next f a n le) ∙ behind p (joined f a n) (f n) None none here

pub from_stops : {X : Type 0} (p : X → Bool) (f : ℕ → List X) (a n m : ℕ) (x : X) → a ≤ n → find p (joined f a n) ≡ None → find p (f n) ≡ Some x → n < m → find p (joined f a m) ≡ Some x
from_stops p f a n zero x le none here lt = absurd (omega arith)
from_stops {X} p f a n (suc m) x le none here lt =
    let next : joined f a (m + 1) ≡ joined f a m ++ f m = joined_next f a m (omega arith) in
    let next' : joined f a (suc m) ≡ joined f a m ++ f m = rw add-one at next in
    elim (cases_lt n m) [
      | inl earlier ↦ ap (find p) next' ∙ before p (joined f a m) (f m) x (from_stops p f a n m x le none here earlier)
      | inr last ↦
          let same : n ≡ m = omega arith in
          let none' : find p (joined f a m) ≡ None = ap (λ k. find p (joined f a k)) (sym same) ∙ none in
          let here' : find p (f m) ≡ Some x = ap (λ k. find p (f k)) (sym same) ∙ here in
          ap (find p) next' ∙ behind p (joined f a m) (f m) (Some x) none' here'
    ]

-- after a loop
pub from_ends : {X : Type 0} (p : X → Bool) (f : ℕ → List X) (a b n : ℕ) → b ≤ n → (a ≤ b → n ≤ b) → find p (joined f a n) ≡ None → find p (joined f a b) ≡ None
from_ends p f a b n end within none = elim (cases_lt a b) [
  | inl some ↦
      let le : n ≤ b = within (omega arith) in
      let e : n ≡ b = omega arith in
      ap (λ k. find p (joined f a k)) (sym e) ∙ none
  | inr empty ↦ from_begins p f a b empty
]

pub joined_begins : {X : Type 0} (p : X → Bool) (f : ℕ → List X) → find p (joined f 0 0) ≡ None
joined_begins p f = from_begins p f 0 0 (omega arith)

pub joined_goes : {X : Type 0} (p : X → Bool) (f : ℕ → List X) (n : ℕ) → find p (joined f 0 n) ≡ None → find p (f n) ≡ None → find p (joined f 0 (n + 1)) ≡ None
joined_goes p f n none here = from_goes p f 0 n (omega arith) none here

pub joined_stops : {X : Type 0} (p : X → Bool) (f : ℕ → List X) (n m : ℕ) (x : X) → find p (joined f 0 n) ≡ None → find p (f n) ≡ Some x → n < m → find p (joined f 0 m) ≡ Some x
joined_stops p f n m x none here lt = from_stops p f 0 n m x (omega arith) none here lt

-- each of them has none, where they have none together
pub joined_each : {X : Type 0} (p : X → Bool) (f : ℕ → List X) (n m : ℕ) → find p (joined f 0 m) ≡ None → n < m → find p (f n) ≡ None
joined_each p f n zero none lt = absurd (omega arith)
joined_each {X} p f n (suc m) none lt =
    let next : joined f 0 (m + 1) ≡ joined f 0 m ++ f m = joined_next f 0 m (omega arith) in
    let next' : joined f 0 (suc m) ≡ joined f 0 m ++ f m = rw add-one at next in
    let both : find p (joined f 0 m ++ f m) ≡ None = ap (find p) (sym next') ∙ none in
    elim (cases_lt n m) [
      | inl earlier ↦ joined_each p f n m (none_left p (joined f 0 m) (f m) both) earlier
      | inr last ↦
          let same : n ≡ m = omega arith in
          ap (λ k. find p (f k)) same ∙ none_right p (joined f 0 m) (f m) both
    ]

-- and together, where each has none
pub joined_all : {X : Type 0} (p : X → Bool) (f : ℕ → List X) (m : ℕ) → ((n : ℕ) → n < m → find p (f n) ≡ None) → find p (joined f 0 m) ≡ None
joined_all p f zero each = joined_begins p f
joined_all p f (suc m) each =
    let next : find p (joined f 0 (m + 1)) ≡ None = joined_goes p f m (joined_all p f m (λ n lt. each n (omega arith))) (each m (omega arith)) in
    rw add-one at next

-- ---- of lists under items
pub flat_goes : {X Y : Type 0} (p : Y → Bool) (f : X → List Y) (xs : List X) (i : ℕ) (d : X) → i < length xs
    → find p (flat_map f (take i xs)) ≡ None → find p (f (get_or xs i d)) ≡ None → find p (flat_map f (take (i + 1) xs)) ≡ None
flat_goes p f [] i d lt none here = absurd (omega arith)
flat_goes p f (x ∷ xs) zero d lt none here = behind p (f x) [] None here refl
flat_goes p f (x ∷ xs) (suc i) d lt none here =
    let more : suc i + 1 ≡ suc (i + 1) = omega arith in
    ap (λ k. find p (flat_map f (take k (x ∷ xs)))) more ∙ behind p (f x) (flat_map f (take (i + 1) xs)) None (none_left p (f x) (flat_map f (take i xs)) none)
    (flat_goes p f xs i d (omega arith) (none_right p (f x) (flat_map f (take i xs)) none) here)

pub flat_stops : {X Y : Type 0} (p : Y → Bool) (f : X → List Y) (xs : List X) (i : ℕ) (d : X) (y : Y) → i < length xs
    → find p (flat_map f (take i xs)) ≡ None → find p (f (get_or xs i d)) ≡ Some y → find p (flat_map f xs) ≡ Some y
flat_stops p f [] i d y lt none here = absurd (omega arith)
flat_stops p f (x ∷ xs) zero d y lt none here = before p (f x) (flat_map f xs) y here
flat_stops p f (x ∷ xs) (suc i) d y lt none here =
    behind p (f x) (flat_map f xs) (Some y) (none_left p (f x) (flat_map f (take i xs)) none)
    (flat_stops p f xs i d y (omega arith) (none_right p (f x) (flat_map f (take i xs)) none) here)

pub flat_ends : {X Y : Type 0} (p : Y → Bool) (f : X → List Y) (xs : List X) (n : ℕ) → length xs ≤ n → find p (flat_map f (take n xs)) ≡ None → find p (flat_map f xs) ≡ None
flat_ends p f [] n le none = refl
flat_ends p f (x ∷ xs) zero le none = absurd (omega arith)
flat_ends p f (x ∷ xs) (suc n) le none =
    behind p (f x) (flat_map f xs) None (none_left p (f x) (flat_map f (take n xs)) none)
    (flat_ends p f xs n (omega arith) (none_right p (f x) (flat_map f (take n xs)) none))

-- ---- of items that are made of others
pub map_one : {X Y : Type 0} (f : X → Y) (b : Bool) (x : X) (m : Option X) (n : Option Y) → n ≡ option_map f m → cond b (Some (f x)) n ≡ option_map f (cond b (Some x) m)
map_one f true x m n e = refl
map_one f false x m n e = e

pub find_map : {X Y : Type 0} (p : Y → Bool) (f : X → Y) (xs : List X) → find p (map f xs) ≡ option_map f (find (λ x. p (f x)) xs)
find_map p f [] = refl
find_map p f (x ∷ xs) = map_one f (p (f x)) x (find (λ y. p (f y)) xs) (find p (map f xs)) (find_map p f xs)

-- ---- of one item
pub one_found : {X : Type 0} (p : X → Bool) (x : X) → p x ≡ true → find p (x ∷ []) ≡ Some x
one_found p x is = ap (λ b. cond b (Some x) None) is

pub one_none : {X : Type 0} (p : X → Bool) (x : X) → p x ≡ false → find p (x ∷ []) ≡ None
one_none p x is = ap (λ b. cond b (Some x) None) is

-- ---- an answer that is made of another
pub some_made : {X Y : Type 0} (f : X → Y) (m r : Option X) (n : Option Y) (x : X) (y : Y) → n ≡ option_map f m → r ≡ m → r ≡ Some x → y ≡ f x → n ≡ Some y
some_made f m r n x y made is here own = made ∙ ap (option_map f) (sym is ∙ here) ∙ ap Some (sym own)

pub none_made : {X Y : Type 0} (f : X → Y) (m r : Option X) (n : Option Y) → n ≡ option_map f m → r ≡ m → r ≡ None → n ≡ None
none_made f m r n made is here = made ∙ ap (option_map f) (sym is ∙ here)

pub nothing : {X : Type 0} (r : Option X) → ((x : X) → r ≡ Some x → ⊥) → r ≡ None
nothing None h = refl
nothing (Some x) h = absurd (h x refl)

-- ---- the one item that passes
pub find_only : {X : Type 0} (p : X → Bool) (xs : List X) (k : ℕ) (x : X) → slice_get xs k ≡ Some x → p x ≡ true
    → ((j : ℕ) (y : X) → slice_get xs j ≡ Some y → p y ≡ true → j ≡ k) → find p xs ≡ Some x
find_only p [] k x at test only = absurd (cc)
find_only {X} p (y ∷ xs) zero x at test only =
    let first : ◌≡◌ {A = Option X} (Some y) (Some x) = at in
    let is : y ≡ x = cc in
    let here : p y ≡ true = ap p is ∙ test in
    ap (λ b. cond b (Some y) (find p xs)) here ∙ first
find_only {X} p (y ∷ xs) (suc k) x at test only = elim (cases_Bool (p y)) [
  | inl t ↦ let e : 0 ≡ suc k = only 0 y refl t in absurd (omega arith)
  | inr f ↦
      ap (λ b. cond b (Some y) (find p xs)) f
      ∙ find_only p xs k x at test (λ j z at_j test_j. (let e : suc j ≡ suc k = only (suc j) z at_j test_j in omega arith))
]

-- an item that passes is there, where one is found
pub find_there : {X : Type 0} (p : X → Bool) (xs : List X) (x : X) → find p xs ≡ Some x → (k : ℕ) × (slice_get xs k ≡ Some x) × (p x ≡ true)
find_there p [] x e = absurd (cc)
find_there {X} p (y ∷ xs) x e = elim (cases_Bool (p y)) [
  | inl t ↦
      let first : ◌≡◌ {A = Option X} (Some y) (Some x) = rw t at e in
      let is : y ≡ x = cc in
      (0, first, ap p (sym is) ∙ t)
  | inr f ↦ let more = find_there p xs x (rw f at e) in (suc more.0, more.1, more.2)
]
