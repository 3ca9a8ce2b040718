-- Passes that are dealt one after another.
use Rattle.std.proofs.Common.{◌≡◌, ℕ, suc, ◌+◌, List, [], ◌∷◌, ◌++◌, map, ap, sym, ◌∙◌, arith}
use Rattle.std.proofs.lemmas.List.{map-append}
use Rattle.jx_store.specs.Order.{numbers}

pub one_more : {X : Type 0} (f : X → ℕ) (xs : List X) (x : X) (n : ℕ) → map f xs ≡ numbers 0 n → f x ≡ n → map f (xs ++ x ∷ []) ≡ numbers 0 (n + 1)
one_more f xs x n e at =
    let last : f x ≡ 0 + n = omega (arith, at) in
    let more : n + 1 ≡ suc n = omega arith in
    map-append f xs (x ∷ []) ∙ (λ i. e i ++ last i ∷ []) ∙ sym (ap (numbers 0) more)
