-- Worker numbers, dealt from the last to the first.
use Rattle.std.proofs.Common.{◌≡◌, ℕ, zero, suc, ◌+◌, ◌-◌, ◌<◌, ◌≤◌, List, [], ◌∷◌, ◌++◌, map, reverse, refl, sym, ap, ◌∙◌, arith}
use mathlib.Core.List.{reverse-cons}
use Rattle.std.proofs.lemmas.List.{map-append, reverse-append}
use Rattle.jx_store.specs.Order.{numbers}
use Rattle.jx_store.proofs.NumberLemmas.{numbers_first}
use Rattle.jx_ring.specs.Rule.{counting_down}

pub count_step : (n : ℕ) → 0 < n → counting_down n ≡ (n - 1) ∷ counting_down (n - 1)
count_step zero pos = absurd (omega arith)
count_step (suc n) pos = (let e : n ≡ suc n - 1 = omega arith in ap (λ (k : ℕ). k ∷ counting_down k) e)

pub map_reverse : {X Y : Type 0} (f : X → Y) (xs : List X) → map f (reverse xs) ≡ reverse (map f xs)
map_reverse f [] = refl
map_reverse f (x ∷ xs) = ap (map f) (reverse-cons x xs) ∙ map-append f (reverse xs) (x ∷ []) ∙ ap (λ (l : List _). l ++ f x ∷ []) (map_reverse f xs) ∙ sym (reverse-cons (f x) (map f xs))

-- one more pass, of the number below
pub dealt_one : {X : Type 0} (f : X → ℕ) (xs : List X) (x : X) (left workers : ℕ) → 1 < left → left ≤ workers → f x ≡ left - 1 → reverse (map f xs) ≡ numbers left (workers - left)
    → reverse (map f (xs ++ x ∷ [])) ≡ numbers (left - 1) (workers - (left - 1))
dealt_one f xs x left workers more most is names =
    let m : ℕ = workers - left in let a : ℕ = left - 1 in
    let e : a + 1 ≡ left = omega arith in let n : suc m ≡ workers - a = omega arith in
    ap reverse (map-append f xs (x ∷ [])) ∙ reverse-append (map f xs) (f x ∷ []) ∙ ap (λ (k : ℕ). k ∷ reverse (map f xs)) is ∙ ap (λ (l : List ℕ). a ∷ l) names
    ∙ ap (λ (k : ℕ). a ∷ numbers k m) (sym e) ∙ sym (numbers_first a m) ∙ ap (numbers a) n

-- the first pass is the last one
pub dealt_all : {X : Type 0} (f : X → ℕ) (xs : List X) (x : X) (workers : ℕ) → 0 < workers → f x ≡ 0 → reverse (map f xs) ≡ numbers 1 (workers - 1) → map f (reverse (xs ++ x ∷ [])) ≡ numbers 0 workers
dealt_all f xs x workers some_worker is names =
    let m : ℕ = workers - 1 in let n : suc m ≡ workers = omega arith in
    map_reverse f (xs ++ x ∷ []) ∙ ap reverse (map-append f xs (x ∷ [])) ∙ reverse-append (map f xs) (f x ∷ []) ∙ ap (λ (k : ℕ). k ∷ reverse (map f xs)) is ∙ ap (λ (l : List ℕ). 0 ∷ l) names
    ∙ sym (numbers_first 0 m) ∙ ap (numbers 0) n
