-- Masks of rows and of columns.
use Rattle.std.proofs.Common.{◌≡◌, ◌<◌, ◌≤◌, ◌-◌, ◌*◌, ◌%◌, ◌^◌, ◌==◌, ◌&&◌, ℕ, Bool, refl, sym, ap, ◌∙◌}
use Rattle.std.specs.Prelude.{nat_lt}
use Rattle.std.specs.Int.{bit_at}
use Rattle.std.proofs.lemmas.Bool.{eqb-true}
use Rattle.std.proofs.lemmas.Nat.{one_shl}
use Rattle.std.proofs.lemmas.Nat.Bits.{bit_at_ones, bit_at_ones_above}
use Rattle.jx_tier1_specs.specs.Near.{one_if}
use Rattle.jx_tier1.proofs.BitLemmas.{below_all}

row_test : ℕ → ℕ → ℕ → Bool
row_test mask count i = bit_at mask i == one_if (nat_lt (i % 6) count && nat_lt i 48)

pub no_rows : (i : ℕ) → i < 64 → bit_at 0 i ≡ one_if (nat_lt (i % 6) 0 && nat_lt i 48)
unfolding row_test
no_rows i l = eqb-true (bit_at 0 i) (one_if (nat_lt (i % 6) 0 && nat_lt i 48)) (below_all 64 i (row_test 0 0) refl l)

pub one_row : (i : ℕ) → i < 64 → bit_at 0x041041041041 i ≡ one_if (nat_lt (i % 6) 1 && nat_lt i 48)
unfolding row_test
one_row i l = eqb-true (bit_at 0x041041041041 i) (one_if (nat_lt (i % 6) 1 && nat_lt i 48)) (below_all 64 i (row_test 0x041041041041 1) refl l)

pub two_rows : (i : ℕ) → i < 64 → bit_at 0x0C30C30C30C3 i ≡ one_if (nat_lt (i % 6) 2 && nat_lt i 48)
unfolding row_test
two_rows i l = eqb-true (bit_at 0x0C30C30C30C3 i) (one_if (nat_lt (i % 6) 2 && nat_lt i 48)) (below_all 64 i (row_test 0x0C30C30C30C3 2) refl l)

pub three_rows : (i : ℕ) → i < 64 → bit_at 0x1C71C71C71C7 i ≡ one_if (nat_lt (i % 6) 3 && nat_lt i 48)
unfolding row_test
three_rows i l = eqb-true (bit_at 0x1C71C71C71C7 i) (one_if (nat_lt (i % 6) 3 && nat_lt i 48)) (below_all 64 i (row_test 0x1C71C71C71C7 3) refl l)

pub four_rows : (i : ℕ) → i < 64 → bit_at 0x3CF3CF3CF3CF i ≡ one_if (nat_lt (i % 6) 4 && nat_lt i 48)
unfolding row_test
four_rows i l = eqb-true (bit_at 0x3CF3CF3CF3CF i) (one_if (nat_lt (i % 6) 4 && nat_lt i 48)) (below_all 64 i (row_test 0x3CF3CF3CF3CF 4) refl l)

ones_are : (n : ℕ) → n < 64 → 1 * 2 ^ n % 18446744073709551616 - 1 ≡ 2 ^ n - 1
ones_are n l = ap (λ (z : ℕ). z - 1) (one_shl n 64 l)

pub ones_below : (n i : ℕ) → n < 64 → i < n → bit_at (1 * 2 ^ n % 18446744073709551616 - 1) i ≡ 1
ones_below n i l m = ap (λ (z : ℕ). bit_at z i) (ones_are n l) ∙ bit_at_ones n i m

pub ones_behind : (n i : ℕ) → n < 64 → n ≤ i → bit_at (1 * 2 ^ n % 18446744073709551616 - 1) i ≡ 0
ones_behind n i l m = ap (λ (z : ℕ). bit_at z i) (ones_are n l) ∙ bit_at_ones_above n i m

-- so many rows
pub rows_as : (mask n count i : ℕ) → bit_at mask i ≡ one_if (nat_lt (i % 6) n && nat_lt i 48) → count ≡ n → bit_at mask i ≡ one_if (nat_lt (i % 6) count && nat_lt i 48)
rows_as mask n count i e f = e ∙ ap (λ (z : ℕ). one_if (nat_lt (i % 6) z && nat_lt i 48)) (sym f)
