-- Coefficients whose bits, planes and signs stand in lists apart.
use Rattle.std.specs.Prelude.{ℕ, Bool, List, [], ◌∷◌}
use Rattle.jx_tier1_specs.specs.declared.coef.Coef.{Coef}

abbrev pub joined : List ℕ → List ℕ → List Bool → List Coef
joined [] planes negatives = []
joined (b ∷ bits) [] negatives = []
joined (b ∷ bits) (p ∷ planes) [] = []
joined (b ∷ bits) (p ∷ planes) (n ∷ negatives) = record { negative = n; bits = b; planes = p } ∷ joined bits planes negatives
