-- Tables D.1 to D.4, D.7 and C.2 of ITU-T T.800, whole, as values of the definitions; each list was read off the standard.
use Rattle.std.specs.Prelude.{◌≡◌, ℕ, pos, negsuc, true, false, List, [], ◌∷◌, map}
use Rattle.std.proofs.Common.{refl}
use Rattle.jx_base.specs.declared.names.Band.{Band}
use Rattle.jx_base.specs.declared.names.Band.TheVariants.{LL, HL, LH, HH}
use Rattle.jx_coder_specs.specs.MqTable.{MqRow, mq_rows, mq_fresh}
use Rattle.jx_tier1_specs.specs.declared.coef.Coef.{Coef}
use Rattle.jx_tier1_specs.specs.Labels.{significance_row, sign_row, refinement_row}
use Rattle.jx_tier1_specs.specs.Near.{leaning}

-- how many neighbours may be significant to the sides, above and below; and on the diagonals
abbrev twos : List ℕ
twos = 0 ∷ 1 ∷ 2 ∷ []

abbrev fours : List ℕ
fours = 0 ∷ 1 ∷ 2 ∷ 3 ∷ 4 ∷ []

-- the labels of a band for sides, upright and diagonals, the last fastest
abbrev labels : Band → List (List (List ℕ))
labels b = map (λ h. map (λ v. map (λ d. significance_row b h v d) fours) twos) twos

table_ll : labels LL ≡
    ((0 ∷ 1 ∷ 2 ∷ 2 ∷ 2 ∷ []) ∷ (3 ∷ 3 ∷ 3 ∷ 3 ∷ 3 ∷ []) ∷ (4 ∷ 4 ∷ 4 ∷ 4 ∷ 4 ∷ []) ∷ []) ∷
    ((5 ∷ 6 ∷ 6 ∷ 6 ∷ 6 ∷ []) ∷ (7 ∷ 7 ∷ 7 ∷ 7 ∷ 7 ∷ []) ∷ (7 ∷ 7 ∷ 7 ∷ 7 ∷ 7 ∷ []) ∷ []) ∷
    ((8 ∷ 8 ∷ 8 ∷ 8 ∷ 8 ∷ []) ∷ (8 ∷ 8 ∷ 8 ∷ 8 ∷ 8 ∷ []) ∷ (8 ∷ 8 ∷ 8 ∷ 8 ∷ 8 ∷ []) ∷ []) ∷ []
unfolding significance_row
table_ll = refl

table_lh : labels LH ≡
    ((0 ∷ 1 ∷ 2 ∷ 2 ∷ 2 ∷ []) ∷ (3 ∷ 3 ∷ 3 ∷ 3 ∷ 3 ∷ []) ∷ (4 ∷ 4 ∷ 4 ∷ 4 ∷ 4 ∷ []) ∷ []) ∷
    ((5 ∷ 6 ∷ 6 ∷ 6 ∷ 6 ∷ []) ∷ (7 ∷ 7 ∷ 7 ∷ 7 ∷ 7 ∷ []) ∷ (7 ∷ 7 ∷ 7 ∷ 7 ∷ 7 ∷ []) ∷ []) ∷
    ((8 ∷ 8 ∷ 8 ∷ 8 ∷ 8 ∷ []) ∷ (8 ∷ 8 ∷ 8 ∷ 8 ∷ 8 ∷ []) ∷ (8 ∷ 8 ∷ 8 ∷ 8 ∷ 8 ∷ []) ∷ []) ∷ []
unfolding significance_row
table_lh = refl

table_hl : labels HL ≡
    ((0 ∷ 1 ∷ 2 ∷ 2 ∷ 2 ∷ []) ∷ (5 ∷ 6 ∷ 6 ∷ 6 ∷ 6 ∷ []) ∷ (8 ∷ 8 ∷ 8 ∷ 8 ∷ 8 ∷ []) ∷ []) ∷
    ((3 ∷ 3 ∷ 3 ∷ 3 ∷ 3 ∷ []) ∷ (7 ∷ 7 ∷ 7 ∷ 7 ∷ 7 ∷ []) ∷ (8 ∷ 8 ∷ 8 ∷ 8 ∷ 8 ∷ []) ∷ []) ∷
    ((4 ∷ 4 ∷ 4 ∷ 4 ∷ 4 ∷ []) ∷ (7 ∷ 7 ∷ 7 ∷ 7 ∷ 7 ∷ []) ∷ (8 ∷ 8 ∷ 8 ∷ 8 ∷ 8 ∷ []) ∷ []) ∷ []
unfolding significance_row
table_hl = refl

table_hh : labels HH ≡
    ((0 ∷ 3 ∷ 6 ∷ 8 ∷ 8 ∷ []) ∷ (1 ∷ 4 ∷ 7 ∷ 8 ∷ 8 ∷ []) ∷ (2 ∷ 5 ∷ 7 ∷ 8 ∷ 8 ∷ []) ∷ []) ∷
    ((1 ∷ 4 ∷ 7 ∷ 8 ∷ 8 ∷ []) ∷ (2 ∷ 5 ∷ 7 ∷ 8 ∷ 8 ∷ []) ∷ (2 ∷ 5 ∷ 7 ∷ 8 ∷ 8 ∷ []) ∷ []) ∷
    ((2 ∷ 5 ∷ 7 ∷ 8 ∷ 8 ∷ []) ∷ (2 ∷ 5 ∷ 7 ∷ 8 ∷ 8 ∷ []) ∷ (2 ∷ 5 ∷ 7 ∷ 8 ∷ 8 ∷ []) ∷ []) ∷ []
unfolding significance_row
table_hh = refl

-- a neighbour that is significant and positive, one that is negative, and one that is insignificant
abbrev plus : Coef
plus = record { negative = false; bits = 1; planes = 1 }

abbrev minus : Coef
minus = record { negative = true; bits = 1; planes = 1 }

abbrev none : Coef
none = record { negative = true; bits = 0; planes = 1 }

-- what two of them contribute (D.2)
table_contributions :
    (leaning plus plus ∷ leaning minus plus ∷ leaning none plus ∷ leaning plus minus ∷ leaning minus minus ∷ leaning none minus ∷
    leaning plus none ∷ leaning minus none ∷ leaning none none ∷ []) ≡
    pos 1 ∷ pos 0 ∷ pos 1 ∷ pos 0 ∷ negsuc 0 ∷ negsuc 0 ∷ pos 1 ∷ negsuc 0 ∷ pos 0 ∷ []
unfolding leaning
table_contributions = refl

-- contributions of the sides in turn 1, 0, -1, and in each those of above and below (D.3)
table_signs :
    (sign_row (pos 1) (pos 1) ∷ sign_row (pos 1) (pos 0) ∷ sign_row (pos 1) (negsuc 0) ∷
    sign_row (pos 0) (pos 1) ∷ sign_row (pos 0) (pos 0) ∷ sign_row (pos 0) (negsuc 0) ∷
    sign_row (negsuc 0) (pos 1) ∷ sign_row (negsuc 0) (pos 0) ∷ sign_row (negsuc 0) (negsuc 0) ∷ []) ≡
    (13, false) ∷ (12, false) ∷ (11, false) ∷ (10, false) ∷ (9, false) ∷ (10, true) ∷ (11, true) ∷ (12, true) ∷ (13, true) ∷ []
unfolding sign_row
table_signs = refl

-- not refined before without and with a significant neighbour, and then refined before (D.4)
table_refinements : (refinement_row false false ∷ refinement_row false true ∷ refinement_row true false ∷ refinement_row true true ∷ []) ≡ 14 ∷ 15 ∷ 16 ∷ 16 ∷ []
unfolding refinement_row
table_refinements = refl

-- the columns of table C.2 in decimals
table_qe : map (λ (r : MqRow). r.qe) mq_rows ≡
    22017 ∷ 13313 ∷ 6145 ∷ 2753 ∷ 1313 ∷ 545 ∷ 22017 ∷ 21505 ∷ 18433 ∷ 14337 ∷ 12289 ∷ 9217 ∷ 7169 ∷ 5633 ∷ 22017 ∷ 21505 ∷
    20737 ∷ 18433 ∷ 14337 ∷ 13313 ∷ 12289 ∷ 10241 ∷ 9217 ∷ 8705 ∷ 7169 ∷ 6145 ∷ 5633 ∷ 5121 ∷ 4609 ∷ 4353 ∷ 2753 ∷ 2497 ∷
    2209 ∷ 1313 ∷ 1089 ∷ 673 ∷ 545 ∷ 321 ∷ 273 ∷ 133 ∷ 73 ∷ 37 ∷ 21 ∷ 9 ∷ 5 ∷ 1 ∷ 22017 ∷ []
unfolding mq_rows
table_qe = refl

table_nmps : map (λ (r : MqRow). r.nmps) mq_rows ≡
    1 ∷ 2 ∷ 3 ∷ 4 ∷ 5 ∷ 38 ∷ 7 ∷ 8 ∷ 9 ∷ 10 ∷ 11 ∷ 12 ∷ 13 ∷ 29 ∷ 15 ∷ 16 ∷
    17 ∷ 18 ∷ 19 ∷ 20 ∷ 21 ∷ 22 ∷ 23 ∷ 24 ∷ 25 ∷ 26 ∷ 27 ∷ 28 ∷ 29 ∷ 30 ∷ 31 ∷ 32 ∷
    33 ∷ 34 ∷ 35 ∷ 36 ∷ 37 ∷ 38 ∷ 39 ∷ 40 ∷ 41 ∷ 42 ∷ 43 ∷ 44 ∷ 45 ∷ 45 ∷ 46 ∷ []
unfolding mq_rows
table_nmps = refl

table_nlps : map (λ (r : MqRow). r.nlps) mq_rows ≡
    1 ∷ 6 ∷ 9 ∷ 12 ∷ 29 ∷ 33 ∷ 6 ∷ 14 ∷ 14 ∷ 14 ∷ 17 ∷ 18 ∷ 20 ∷ 21 ∷ 14 ∷ 14 ∷
    15 ∷ 16 ∷ 17 ∷ 18 ∷ 19 ∷ 19 ∷ 20 ∷ 21 ∷ 22 ∷ 23 ∷ 24 ∷ 25 ∷ 26 ∷ 27 ∷ 28 ∷ 29 ∷
    30 ∷ 31 ∷ 32 ∷ 33 ∷ 34 ∷ 35 ∷ 36 ∷ 37 ∷ 38 ∷ 39 ∷ 40 ∷ 41 ∷ 42 ∷ 43 ∷ 46 ∷ []
unfolding mq_rows
table_nlps = refl

table_switch : map (λ (r : MqRow). r.switches) mq_rows ≡
    true ∷ false ∷ false ∷ false ∷ false ∷ false ∷ true ∷ false ∷ false ∷ false ∷ false ∷ false ∷ false ∷ false ∷ true ∷ false ∷
    false ∷ false ∷ false ∷ false ∷ false ∷ false ∷ false ∷ false ∷ false ∷ false ∷ false ∷ false ∷ false ∷ false ∷ false ∷ false ∷
    false ∷ false ∷ false ∷ false ∷ false ∷ false ∷ false ∷ false ∷ false ∷ false ∷ false ∷ false ∷ false ∷ false ∷ false ∷ []
unfolding mq_rows
table_switch = refl

-- table D.7: label 0 begins in row 4, 17 (a run) in row 3, 18 (uniform) in row 46, all others in row 0, and each with symbol 0
table_start : mq_fresh.rows ≡ 4 ∷ 0 ∷ 0 ∷ 0 ∷ 0 ∷ 0 ∷ 0 ∷ 0 ∷ 0 ∷ 0 ∷ 0 ∷ 0 ∷ 0 ∷ 0 ∷ 0 ∷ 0 ∷ 0 ∷ 3 ∷ 46 ∷ []
table_start = refl

table_symbols : mq_fresh.symbols ≡ false ∷ false ∷ false ∷ false ∷ false ∷ false ∷ false ∷ false ∷ false ∷ false ∷ false ∷ false ∷ false ∷ false ∷ false ∷ false ∷
    false ∷ false ∷ false ∷ []
table_symbols = refl
