-- The segments of a block's pieces, piece by piece.
use Rattle.std.specs.Prelude.{ℕ, ◌+◌, ◌-◌, Bool, true, false, not, ◌||◌, List, [], ◌∷◌, ◌++◌}
use Rattle.jx_base.specs.Pieces.{PieceValue}
use Rattle.jx_base.specs.Passes.{end_pass}

-- bytes before those of the first segment
abbrev pub onto_first : List ℕ → List (List ℕ) → List (List ℕ)
onto_first bytes [] = bytes ∷ []
onto_first bytes (s ∷ ss) = (bytes ++ s) ∷ ss

abbrev pub joined_on : Bool → List ℕ → List (List ℕ) → List (List ℕ)
joined_on true bytes ss = bytes ∷ ss
joined_on false bytes ss = onto_first bytes ss

-- whether a piece ends with a pass that ends a segment
abbrev pub ends_it : ℕ → PieceValue → Bool
ends_it style p = end_pass style (p.first + p.passes - 1)

abbrev pub groups : ℕ → List PieceValue → List (List ℕ)
groups style [] = []
groups style (p ∷ ps) = joined_on (ends_it style p) p.bytes (groups style ps)

-- the segments that are left where bytes of the first of them were passed
abbrev pub groups_left : ℕ → List ℕ → List PieceValue → List (List ℕ)
groups_left style bytes [] = []
groups_left style bytes (p ∷ ps) = onto_first bytes (groups style (p ∷ ps))

-- the first piece is the last one of its segment
abbrev pub is_last_of_segment : ℕ → List PieceValue → Bool
is_last_of_segment style [] = false
is_last_of_segment style (p ∷ []) = true
is_last_of_segment style (p ∷ q ∷ ps) = ends_it style p

-- some piece is followed by one of its own segment
abbrev pub goes_on : ℕ → List PieceValue → Bool
goes_on style [] = false
goes_on style (p ∷ ps) = not (is_last_of_segment style (p ∷ ps)) || goes_on style ps
