-- Words of a block's places: eight columns of a stripe's four rows, place (column, row) at bit 6 * column + row
-- (ITU-T T.800, D.1). A window has a column and a row more to each side, its place (column, row) also at bit 6 * column + row.
use Rattle.std.specs.Prelude.{ℕ, ◌≡◌, ◌+◌, ◌*◌, ◌%◌, ◌<◌, ◌≤◌, zero, suc, max, ◌==◌, if◌then◌else◌}
use Rattle.std.specs.Int.{bit_at}

-- nothing stands between the columns and behind them
pub record IsWord (w : ℕ) : Type 0 where
  pub between : (i : ℕ) → 4 ≤ i % 6 → bit_at w i ≡ 0
  pub behind : (i : ℕ) → 48 ≤ i → bit_at w i ≡ 0

-- six rows of a column: the last one of the word above, the four of its own, and the first one of the word below
abbrev pub six_of : ℕ → ℕ → ℕ → ℕ → ℕ → ℕ
six_of own above below column zero = bit_at above (6 * column + 3)
six_of own above below column (suc row) = if row == 4 then bit_at below (6 * column) else bit_at own (6 * column + row)

-- the eight columns of a window that are a word's own
pub record AreColumns (own above below w : ℕ) : Type 0 where
  pub rows : (column row : ℕ) → column < 8 → row < 6 → bit_at w (6 * column + 6 + row) ≡ six_of own above below column row
  pub before : (i : ℕ) → i < 6 → bit_at w i ≡ 0
  pub behind : (i : ℕ) → 54 ≤ i → bit_at w i ≡ 0

-- a window of a word's columns, and of the nearest ones of the words to its sides
abbrev pub in_window : ℕ → ℕ → ℕ → ℕ → ℕ → ℕ
in_window left own right column row =
    if column == 0 then bit_at left (48 + row) else if column == 9 then bit_at right (6 + row) else bit_at own (6 * column + row)

-- whether a bit is 1, or one of the two that follow it; one of a place and its eight neighbours, where the place above to the
-- left has a window's bit i; one of the eight
abbrev pub of_three : ℕ → ℕ → ℕ
of_three w i = max (max (bit_at w i) (bit_at w (i + 1))) (bit_at w (i + 2))

abbrev pub of_nine : ℕ → ℕ → ℕ
of_nine w i = max (max (of_three w i) (of_three w (i + 6))) (of_three w (i + 12))

abbrev pub of_eight : ℕ → ℕ → ℕ
of_eight w i = max (max (of_three w i) (of_three w (i + 12))) (max (bit_at w (i + 6)) (bit_at w (i + 8)))

-- the number of a place in the table of first bits: the column to the left of it at the bits 0 to 2, the one to the right at 3 to
-- 5, its own at 6 to 8
pub record HasNine (w place n : ℕ) : Type 0 where
  pub few : n < 512
  pub north_west : bit_at n 0 ≡ bit_at w place
  pub west : bit_at n 1 ≡ bit_at w (place + 1)
  pub south_west : bit_at n 2 ≡ bit_at w (place + 2)
  pub north_east : bit_at n 3 ≡ bit_at w (place + 12)
  pub east : bit_at n 4 ≡ bit_at w (place + 13)
  pub south_east : bit_at n 5 ≡ bit_at w (place + 14)
  pub north : bit_at n 6 ≡ bit_at w (place + 6)
  pub south : bit_at n 8 ≡ bit_at w (place + 8)

-- its number in the table of signs: of its four nearest whether they are significant, and whether they are negative
pub record HasFour (w signs place n : ℕ) : Type 0 where
  pub few : n < 512
  pub north : bit_at n 0 ≡ bit_at w (place + 6)
  pub north_sign : bit_at n 1 ≡ bit_at signs (place + 7)
  pub south : bit_at n 2 ≡ bit_at w (place + 8)
  pub south_sign : bit_at n 3 ≡ bit_at signs (place + 9)
  pub west : bit_at n 4 ≡ bit_at w (place + 1)
  pub west_sign : bit_at n 5 ≡ bit_at signs (place + 2)
  pub east : bit_at n 7 ≡ bit_at w (place + 13)
  pub east_sign : bit_at n 8 ≡ bit_at signs (place + 14)
