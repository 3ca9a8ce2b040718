-- Tile-parts of one piece each.
use Rattle.std.proofs.Common.{◌≡◌, ◌∙◌, ℕ, List, [], ◌∷◌, map, refl, ap, append-nil}
use Rattle.std.specs.List.{concat}

pub ones_joined : {X : Type 0} (f : X → List ℕ) (xs : List X) → map concat (map (λ x. f x ∷ []) xs) ≡ map f xs
ones_joined f [] = refl
ones_joined {X} f (x ∷ xs) =
    let own : concat (f x ∷ []) ≡ f x = append-nil (f x) in
    ap (λ (h : List ℕ). h ∷ map concat (map (λ (y : X). f y ∷ []) xs)) own ∙ ap (λ (t : List (List ℕ)). f x ∷ t) (ones_joined f xs)
