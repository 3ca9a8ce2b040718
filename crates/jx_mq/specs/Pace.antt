-- How many shifts of A decisions can take (ITU-T T.800, C.2.6): six for each, and as many more as the decisions before them have spared.
use Rattle.std.specs.Prelude.{ℕ, ◌+◌, List, [], ◌∷◌, ◌++◌, replicate, slice_index_or}

-- what decisions have spared that led to a row of Table C.2: rows of a small Qe are reached by decisions with a shift each at most, and
-- only there the less probable symbol takes more than six
unfoldable pub spared : ℕ → ℕ
spared row = slice_index_or (replicate 37 0 ++ (1 ∷ 1 ∷ 3 ∷ 4 ∷ 7 ∷ 9 ∷ 13 ∷ 17 ∷ 22 ∷ [])) row 0

-- by all labels
abbrev pub spared_in : List ℕ → ℕ
spared_in [] = 0
spared_in (row ∷ rows) = spared row + spared_in rows
