-- The tables of context labels, by the numbers of places (ITU-T T.800, tables D.1 to D.3).
use Rattle.std.specs.Prelude.{ℕ, ◌≡◌, ◌+◌, ◌*◌, ◌<◌, ◌≤◌, ◌==◌, Bool, ◌&&◌, not, List, length, slice_index_or}
use Rattle.std.specs.Int.{bit_at}
use Rattle.jx_base.specs.declared.names.Band.{Band}
use Rattle.jx_tier1_specs.specs.Labels.{significance_row, sign_row}
use Rattle.jx_tier1_specs.specs.Near.{one_if}
use Rattle.jx_tier1.specs.Signs.{leaned}

-- the label of a first bit (HasNine says which neighbour has which bit)
unfoldable pub first_label : Band → ℕ → ℕ
first_label band n =
    significance_row band (bit_at n 1 + bit_at n 4) (bit_at n 6 + bit_at n 8) (bit_at n 0 + bit_at n 3 + bit_at n 2 + bit_at n 5)

-- whether a neighbour with two bits from one on is significant and positive, or significant and negative
abbrev pub plus_at : ℕ → ℕ → Bool
plus_at n i = bit_at n i == 1 && not (bit_at n (i + 1) == 1)

abbrev pub minus_at : ℕ → ℕ → Bool
minus_at n i = bit_at n i == 1 && bit_at n (i + 1) == 1

-- the label of a sign, and whether its decision is turned over (HasFour says which neighbour has which bits)
unfoldable pub sign_context : ℕ → ℕ × Bool
sign_context n =
    sign_row (leaned (plus_at n 4) (minus_at n 4) (plus_at n 7) (minus_at n 7)) (leaned (plus_at n 0) (minus_at n 0) (plus_at n 2) (minus_at n 2))

-- both as one number
abbrev pub context_entry : ℕ × Bool → ℕ
context_entry row = row.0 + 32 * one_if row.1

-- the first entries of either table
pub record HasFirsts (band : Band) (count : ℕ) (table : List ℕ) : Type 0 where
  pub size : length table ≡ count
  pub at : (n : ℕ) → n < count → slice_index_or table n 0 ≡ first_label band n
  pub few : (n : ℕ) → n < count → slice_index_or table n 0 ≤ 8

pub record HasContexts (count : ℕ) (table : List ℕ) : Type 0 where
  pub size : length table ≡ count
  pub at : (n : ℕ) → n < count → slice_index_or table n 0 ≡ context_entry (sign_context n)
  pub few : (n : ℕ) → n < count → (sign_context n).0 < 19
