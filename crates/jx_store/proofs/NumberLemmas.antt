-- Numbers from one on: how many they are, which stands at a place, and those that follow them.
use Rattle.std.proofs.Common.{◌≡◌, ◌∙◌, ◌<◌, ◌+◌, ℕ, zero, suc, List, [], ◌∷◌, ◌++◌, length, map, refl, ap, sym, arith, append_assoc, append-nil, length-append, Some}
use Rattle.std.specs.List.{slice_get}
use Rattle.std.specs.Option.{option_map}
use Rattle.std.proofs.lemmas.List.{length-map}
use Rattle.std.proofs.lemmas.Option.{same_Some, slice_get-map, slice_get_within}
use Rattle.jx_store.specs.Order.{numbers}

pub length_numbers : (a n : ℕ) → length (numbers a n) ≡ n
length_numbers a zero = refl
length_numbers a (suc n) = omega (arith, length-append (numbers a n) ((a + n) ∷ []), length_numbers a n)

-- a number before a list of them
pub numbers_first : (a n : ℕ) → numbers a (suc n) ≡ a ∷ numbers (a + 1) n
numbers_first a zero = (let e : a + 0 ≡ a = omega arith in ap (λ (k : ℕ). k ∷ []) e)
numbers_first a (suc n) = (let e : a + suc n ≡ a + 1 + n = omega arith in ap (λ (l : List ℕ). l ++ (a + suc n) ∷ []) (numbers_first a n) ∙ ap (λ (k : ℕ). a ∷ (numbers (a + 1) n ++ k ∷ [])) e)

-- those that follow
pub numbers_then : (a n m : ℕ) → numbers a n ++ numbers (a + n) m ≡ numbers a (n + m)
numbers_then a n zero =
    let count : n ≡ n + 0 = omega arith in
    append-nil (numbers a n) ∙ ap (numbers a) count
numbers_then a n (suc m) =
    let here : (a + n) + m ≡ a + (n + m) = omega arith in
    let count : suc (n + m) ≡ n + suc m = omega arith in
    sym (append_assoc (numbers a n) (numbers (a + n) m) (((a + n) + m) ∷ [])) ∙ ap (λ (xs : List ℕ). xs ++ ((a + n) + m) ∷ []) (numbers_then a n m)
    ∙ ap (λ (x : ℕ). numbers a (n + m) ++ x ∷ []) here ∙ ap (numbers a) count

-- the number at a place
pub number_in : (a n i : ℕ) → i < n → slice_get (numbers a n) i ≡ Some (a + i)
number_in a zero i lt = absurd (omega (arith, lt))
number_in a (suc n) zero lt =
    let here : a ≡ a + 0 = omega arith in
    ap (λ (l : List ℕ). slice_get l 0) (numbers_first a n) ∙ ap Some here
number_in a (suc n) (suc i) lt =
    let here : (a + 1) + i ≡ a + suc i = omega arith in
    ap (λ (l : List ℕ). slice_get l (suc i)) (numbers_first a n) ∙ number_in (a + 1) n i (omega (arith, lt)) ∙ ap Some here

-- ---- items that have these numbers
pub length_numbered : {X : Type 0} (f : X → ℕ) (xs : List X) (a n : ℕ) → map f xs ≡ numbers a n → length xs ≡ n
length_numbered f xs a n e = sym (length-map xs f) ∙ ap (λ (l : List ℕ). length l) e ∙ length_numbers a n

pub number_at : {X : Type 0} (f : X → ℕ) (xs : List X) (a n i : ℕ) (x : X) → map f xs ≡ numbers a n → slice_get xs i ≡ Some x → f x ≡ a + i
number_at f xs a n i x e at =
    let inside : i < n = omega (arith, slice_get_within xs i x at, length_numbered f xs a n e) in
    same_Some (f x) (a + i) (sym (slice_get-map f xs i ∙ ap (option_map f) at) ∙ ap (λ (l : List ℕ). slice_get l i) e ∙ number_in a n i inside)
