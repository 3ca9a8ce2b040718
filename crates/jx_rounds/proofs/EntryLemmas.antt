-- Entries of a round, one after another.
use Rattle.std.proofs.Common.{◌≡◌, ◌∙◌, ◌<◌, ◌+◌, ℕ, List, [], ◌∷◌, ◌++◌, length, map, drop, sym, ap, arith, append_assoc}
use Rattle.std.specs.Prelude.{slice_index_or}
use Rattle.std.proofs.lemmas.List.{drop_more}

next_is : {A : Type 0} (es : List A) (i : ℕ) (t : A) → i < length es → t ≡ slice_index_or es i t → drop i es ≡ t ∷ drop (i + 1) es
next_is {A} es i t lt is = drop_more es i t lt ∙ ap (λ (x : A). x ∷ drop (i + 1) es) (sym is)

pub drop_shorter : {A : Type 0} (es : List A) (i : ℕ) (t : A) → i < length es → t ≡ slice_index_or es i t → length (drop i es) ≡ length (drop (i + 1) es) + 1
drop_shorter {A} es i t lt is = let same = ap (λ (xs : List A). length xs) (next_is es i t lt is) in omega (arith, same)

-- what is told of the next one stands behind what was told before
pub told_next : {A B : Type 0} (f : A → B) (tape more all : List B) (b : B) (es : List A) (i : ℕ) (t : A) → more ≡ tape ++ b ∷ [] → i < length es → t ≡ slice_index_or es i t → b ≡ f t
    → tape ++ map f (drop i es) ≡ all → more ++ map f (drop (i + 1) es) ≡ all
told_next {A} {B} f tape more all b es i t e lt is told done =
    let rest : List B = map f (drop (i + 1) es) in
    ap (λ (xs : List B). xs ++ rest) e ∙ append_assoc tape (b ∷ []) rest ∙ ap (λ (x : B). tape ++ x ∷ rest) told ∙ ap (λ (xs : List A). tape ++ map f xs) (sym (next_is es i t lt is)) ∙ done
