-- The labels of decisions, as the tables of ITU-T T.800 have them: D.1 (significance), D.2 and D.3 (sign), D.4 (refinement).
-- A table is a list of rows, each with its label and its condition.
use Rattle.std.specs.Prelude.{ℕ, ℤ, pos, negsuc, ◌+◌, ◌==◌, nat_lt, nat_le, Bool, true, false, ◌&&◌, not, List, [], ◌∷◌, if◌then◌else◌}
use Rattle.jx_base.specs.declared.names.Band.{Band}
use Rattle.jx_base.specs.declared.names.Band.TheVariants.{LL, HL, LH, HH}

-- the label of the row whose condition holds
abbrev pub label_in : List (ℕ × Bool) → ℕ
label_in [] = 0
label_in (row ∷ rows) = if row.1 then row.0 else label_in rows

-- table D.1, the columns of the bands LL and LH
abbrev pub low_rows : ℕ → ℕ → ℕ → List (ℕ × Bool)
low_rows sides upright diagonals =
    (8, sides == 2) ∷
    (7, sides == 1 && nat_le 1 upright) ∷
    (6, sides == 1 && upright == 0 && nat_le 1 diagonals) ∷
    (5, sides == 1 && upright == 0 && diagonals == 0) ∷
    (4, sides == 0 && upright == 2) ∷
    (3, sides == 0 && upright == 1) ∷
    (2, sides == 0 && upright == 0 && nat_le 2 diagonals) ∷
    (1, sides == 0 && upright == 0 && diagonals == 1) ∷
    (0, sides == 0 && upright == 0 && diagonals == 0) ∷ []

-- table D.1, the columns of the band HH
abbrev pub diagonal_rows : ℕ → ℕ → List (ℕ × Bool)
diagonal_rows straight diagonals =
    (8, nat_le 3 diagonals) ∷
    (7, diagonals == 2 && nat_le 1 straight) ∷
    (6, diagonals == 2 && straight == 0) ∷
    (5, diagonals == 1 && nat_le 2 straight) ∷
    (4, diagonals == 1 && straight == 1) ∷
    (3, diagonals == 1 && straight == 0) ∷
    (2, diagonals == 0 && nat_le 2 straight) ∷
    (1, diagonals == 0 && straight == 1) ∷
    (0, diagonals == 0 && straight == 0) ∷ []

-- table D.1: the label by how many neighbours are significant to the sides, above and below, and on the diagonals
unfoldable pub significance_row : Band → ℕ → ℕ → ℕ → ℕ
significance_row LL sides upright diagonals = label_in (low_rows sides upright diagonals)
significance_row LH sides upright diagonals = label_in (low_rows sides upright diagonals)
significance_row HL sides upright diagonals = label_in (low_rows upright sides diagonals)
significance_row HH sides upright diagonals = label_in (diagonal_rows (sides + upright) diagonals)

-- which way the signs of two neighbours lean
abbrev pub is_up : ℤ → Bool
is_up (pos n) = nat_lt 0 n
is_up (negsuc n) = false

abbrev pub is_down : ℤ → Bool
is_down (pos n) = false
is_down (negsuc n) = true

abbrev pub is_level : ℤ → Bool
is_level z = not (is_up z) && not (is_down z)

-- table D.3: label, whether the decision is turned over, condition
abbrev pub sign_rows : ℤ → ℤ → List (ℕ × Bool × Bool)
sign_rows h v =
    (13, false, is_up h && is_up v) ∷
    (12, false, is_up h && is_level v) ∷
    (11, false, is_up h && is_down v) ∷
    (10, false, is_level h && is_up v) ∷
    (9, false, is_level h && is_level v) ∷
    (10, true, is_level h && is_down v) ∷
    (11, true, is_down h && is_up v) ∷
    (12, true, is_down h && is_level v) ∷
    (13, true, is_down h && is_down v) ∷ []

abbrev pub row_in : List (ℕ × Bool × Bool) → ℕ × Bool
row_in [] = (9, false)
row_in (row ∷ rows) = if row.2 then (row.0, row.1) else row_in rows

unfoldable pub sign_row : ℤ → ℤ → ℕ × Bool
sign_row h v = row_in (sign_rows h v)

-- table D.4: whether the coefficient was refined before, and whether a neighbour is significant
unfoldable pub refinement_row : Bool → Bool → ℕ
refinement_row refined near = label_in ((16, refined) ∷ (15, not refined && near) ∷ (14, not refined && not near) ∷ [])
