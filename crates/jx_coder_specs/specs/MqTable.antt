-- The probability estimates of the arithmetic coder, and how contexts move among them: ITU-T T.800, Annex C.2.5 and Table C.2.
use Rattle.std.specs.Prelude.{ℕ, ◌-◌, nat_le, Bool, true, false, not, List, [], ◌∷◌, slice_index_or, slice_set, replicate, if◌then◌else◌}

-- Qe, the next row after the more probable symbol and after the less probable one, and whether the latter turns the symbol over
pub record MqRow : Type 0 where
  pub qe : ℕ
  pub nmps : ℕ
  pub nlps : ℕ
  pub switches : Bool

abbrev pub mq_row : ℕ → ℕ → ℕ → Bool → MqRow
mq_row qe nmps nlps switches = record { qe = qe; nmps = nmps; nlps = nlps; switches = switches }

unfoldable pub mq_rows : List MqRow
mq_rows =
    mq_row 0x5601 1 1 true ∷ mq_row 0x3401 2 6 false ∷ mq_row 0x1801 3 9 false ∷ mq_row 0x0AC1 4 12 false ∷
    mq_row 0x0521 5 29 false ∷ mq_row 0x0221 38 33 false ∷ mq_row 0x5601 7 6 true ∷ mq_row 0x5401 8 14 false ∷
    mq_row 0x4801 9 14 false ∷ mq_row 0x3801 10 14 false ∷ mq_row 0x3001 11 17 false ∷ mq_row 0x2401 12 18 false ∷
    mq_row 0x1C01 13 20 false ∷ mq_row 0x1601 29 21 false ∷ mq_row 0x5601 15 14 true ∷ mq_row 0x5401 16 14 false ∷
    mq_row 0x5101 17 15 false ∷ mq_row 0x4801 18 16 false ∷ mq_row 0x3801 19 17 false ∷ mq_row 0x3401 20 18 false ∷
    mq_row 0x3001 21 19 false ∷ mq_row 0x2801 22 19 false ∷ mq_row 0x2401 23 20 false ∷ mq_row 0x2201 24 21 false ∷
    mq_row 0x1C01 25 22 false ∷ mq_row 0x1801 26 23 false ∷ mq_row 0x1601 27 24 false ∷ mq_row 0x1401 28 25 false ∷
    mq_row 0x1201 29 26 false ∷ mq_row 0x1101 30 27 false ∷ mq_row 0x0AC1 31 28 false ∷ mq_row 0x09C1 32 29 false ∷
    mq_row 0x08A1 33 30 false ∷ mq_row 0x0521 34 31 false ∷ mq_row 0x0441 35 32 false ∷ mq_row 0x02A1 36 33 false ∷
    mq_row 0x0221 37 34 false ∷ mq_row 0x0141 38 35 false ∷ mq_row 0x0111 39 36 false ∷ mq_row 0x0085 40 37 false ∷
    mq_row 0x0049 41 38 false ∷ mq_row 0x0025 42 39 false ∷ mq_row 0x0015 43 40 false ∷ mq_row 0x0009 44 41 false ∷
    mq_row 0x0005 45 42 false ∷ mq_row 0x0001 45 43 false ∷ mq_row 0x5601 46 46 false ∷ []

-- the row of a number; the last row stands for one past the end
unfoldable pub mq_row_at : ℕ → MqRow
mq_row_at n = slice_index_or mq_rows n (mq_row 0x5601 46 46 false)

-- each label's row and more probable symbol
pub record MqContexts : Type 0 where
  pub rows : List ℕ
  pub symbols : List Bool

-- the contexts at the start: ITU-T T.800, Table D.7
abbrev pub mq_fresh : MqContexts
mq_fresh = record {
  rows = 4 ∷ 0 ∷ 0 ∷ 0 ∷ 0 ∷ 0 ∷ 0 ∷ 0 ∷ 0 ∷ 0 ∷ 0 ∷ 0 ∷ 0 ∷ 0 ∷ 0 ∷ 0 ∷ 0 ∷ 3 ∷ 46 ∷ [];
  symbols = replicate 19 false;
}

abbrev pub mq_row_of : MqContexts → ℕ → MqRow
mq_row_of x label = mq_row_at (slice_index_or x.rows label 0)

-- MPS, the more probable symbol of a label
abbrev pub mq_mps : MqContexts → ℕ → Bool
mq_mps x label = slice_index_or x.symbols label false

abbrev pub mq_moved : MqContexts → ℕ → ℕ → Bool → MqContexts
mq_moved x label row symbol = record { rows = slice_set x.rows label row; symbols = slice_set x.symbols label symbol }

-- the contexts after a decision that is the more probable symbol, or isn't: the former moves nothing where A keeps bit 15
abbrev pub mq_adapted : ℕ → MqContexts → ℕ → Bool → MqContexts
mq_adapted a x label is_mps =
    let row = mq_row_of x label in
    let symbol = mq_mps x label in
    if is_mps then (if nat_le 32768 (a - row.qe) then x else mq_moved x label row.nmps symbol)
    else mq_moved x label row.nlps (if row.switches then not symbol else symbol)
