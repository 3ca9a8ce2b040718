-- Running sums, and the items that have them.
use Rattle.std.specs.Prelude.{ℕ, ◌+◌, ◌-◌, List, [], ◌∷◌}

-- the sums of the first items, from none to all, begun with a
abbrev pub sums_from : ℕ → List ℕ → List ℕ
sums_from a [] = a ∷ []
sums_from a (x ∷ xs) = a ∷ sums_from (a + x) xs

-- from each number to the next
abbrev pub gaps_from : ℕ → List ℕ → List ℕ
gaps_from a [] = []
gaps_from a (x ∷ xs) = (x - a) ∷ gaps_from x xs

-- the items that have these sums
abbrev pub items_of : List ℕ → List ℕ
items_of [] = []
items_of (a ∷ xs) = gaps_from a xs
