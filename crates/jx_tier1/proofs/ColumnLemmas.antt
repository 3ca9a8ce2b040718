-- Columns of a window.
use Rattle.std.proofs.Common.{◌≡◌, ◌<◌, ◌≤◌, ◌+◌, ◌-◌, ◌*◌, ◌/◌, ◌%◌, ◌==◌, ℕ, zero, suc, min, max, Bool, refl, sym, ap, ◌∙◌, arith, inl, inr, if◌then◌else◌}
use Rattle.std.specs.Int.{bit_at}
use Rattle.std.specs.Int.Bits.{bit_and, bit_or}
use Rattle.std.proofs.lemmas.Bool.{cases_eq, cases_lt, eqb-true, eq-eqb, ne_eqb}
use Rattle.std.proofs.lemmas.Nat.Bits.{bit_at-lt, bit_at_above}
use Rattle.jx_tier1.specs.Places.{IsWord, AreColumns, six_of, in_window}
use Rattle.jx_tier1.proofs.BitLemmas.{bit_shl, bit_shl_low, bit_shr, or_bit, and_bit, below_all}

-- the two masks
above_bit : (column row : ℕ) → column < 8 → row < 6 → bit_at 0x0001041041041040 (6 * column + 6 + row) ≡ (if row == 0 then 1 else 0)
above_bit column row l m =
    let n : ℕ = 6 * column + row in
    let test : ℕ → Bool = λ (z : ℕ). bit_at 0x0001041041041040 (z + 6) == (if z % 6 == 0 then 1 else 0) in
    let e : bit_at 0x0001041041041040 (n + 6) ≡ (if n % 6 == 0 then 1 else 0) =
    eqb-true (bit_at 0x0001041041041040 (n + 6)) (if n % 6 == 0 then 1 else 0) (below_all 48 n test refl (omega arith)) in
    let r : n % 6 ≡ row = omega arith in
    let q : 6 * column + 6 + row ≡ n + 6 = omega arith in
    ap (λ (z : ℕ). bit_at 0x0001041041041040 z) q ∙ (e ∙ ap (λ (z : ℕ). if z == 0 then 1 else 0) r)

below_bit : (column row : ℕ) → column < 8 → row < 6 → bit_at 0x0020820820820800 (6 * column + 6 + row) ≡ (if row == 5 then 1 else 0)
below_bit column row l m =
    let n : ℕ = 6 * column + row in
    let test : ℕ → Bool = λ (z : ℕ). bit_at 0x0020820820820800 (z + 6) == (if z % 6 == 5 then 1 else 0) in
    let e : bit_at 0x0020820820820800 (n + 6) ≡ (if n % 6 == 5 then 1 else 0) =
    eqb-true (bit_at 0x0020820820820800 (n + 6)) (if n % 6 == 5 then 1 else 0) (below_all 48 n test refl (omega arith)) in
    let r : n % 6 ≡ row = omega arith in
    let q : 6 * column + 6 + row ≡ n + 6 = omega arith in
    ap (λ (z : ℕ). bit_at 0x0020820820820800 z) q ∙ (e ∙ ap (λ (z : ℕ). if z == 5 then 1 else 0) r)

-- a row of a word in its window
own_bit : (own column row : ℕ) → IsWord own → column < 8 → row < 5 → bit_at (own * 128 % 18446744073709551616) (6 * column + 6 + suc row) ≡ bit_at own (6 * column + row)
own_bit own column row w l m =
    let e : 6 * column + 6 + suc row - 7 ≡ 6 * column + row = omega arith in
    bit_shl own 7 (6 * column + 6 + suc row) (omega arith) (omega arith) ∙ ap (λ (z : ℕ). bit_at own z) e

own_none : (own column : ℕ) → IsWord own → column < 8 → bit_at (own * 128 % 18446744073709551616) (6 * column + 6 + 0) ≡ 0
own_none own column w l =
    elim (cases_eq column 0) [
      | inl p ↦ bit_shl_low own 7 (6 * column + 6 + 0) (omega arith) (omega arith)
      | inr p ↦ bit_shl own 7 (6 * column + 6 + 0) (omega arith) (omega arith) ∙ w.between (6 * column + 6 + 0 - 7) (omega arith)
    ]

above_row : (above column row : ℕ) → column < 8 → row < 6 → bit_at (bit_and (above * 8 % 18446744073709551616) 0x0001041041041040) (6 * column + 6 + row)
    ≡ min (bit_at above (6 * column + 3 + row)) (if row == 0 then 1 else 0)
above_row above column row l m =
    let e : 6 * column + 6 + row - 3 ≡ 6 * column + 3 + row = omega arith in
    and_bit (above * 8 % 18446744073709551616) 0x0001041041041040 (6 * column + 6 + row) (bit_at above (6 * column + 3 + row)) (if row == 0 then 1 else 0)
    (bit_shl above 3 (6 * column + 6 + row) (omega arith) (omega arith) ∙ ap (λ (z : ℕ). bit_at above z) e)
    (above_bit column row l m)

below_row : (below column row : ℕ) → column < 8 → row < 5 → bit_at (bit_and (below * 2048 % 18446744073709551616) 0x0020820820820800) (6 * column + 6 + row) ≡ 0
below_row below column row l m =
    let d : bit_at 0x0020820820820800 (6 * column + 6 + row) ≡ 0 =
    below_bit column row l (omega arith) ∙ ap (λ (b : Bool). if b then 1 else 0) (ne_eqb row 5 (λ z. omega arith)) in
    and_bit (below * 2048 % 18446744073709551616) 0x0020820820820800 (6 * column + 6 + row) (bit_at (below * 2048 % 18446744073709551616) (6 * column + 6 + row)) 0 refl d
    ∙ (let f : min (bit_at (below * 2048 % 18446744073709551616) (6 * column + 6 + row)) 0 ≡ 0 = omega arith in f)

below_last : (below column : ℕ) → column < 8 → bit_at (bit_and (below * 2048 % 18446744073709551616) 0x0020820820820800) (6 * column + 6 + 5) ≡ bit_at below (6 * column)
below_last below column l =
    let e : 6 * column + 6 + 5 - 11 ≡ 6 * column = omega arith in
    let b = bit_at-lt below (6 * column) in
    and_bit (below * 2048 % 18446744073709551616) 0x0020820820820800 (6 * column + 6 + 5) (bit_at below (6 * column)) 1
    (bit_shl below 11 (6 * column + 6 + 5) (omega arith) (omega arith) ∙ ap (λ (z : ℕ). bit_at below z) e)
    (below_bit column 5 l (omega arith))
    ∙ (let f : min (bit_at below (6 * column)) 1 ≡ bit_at below (6 * column) = omega arith in f)

abbrev columns_of : ℕ → ℕ → ℕ → ℕ
columns_of own above below =
    bit_or (bit_or (own * 128 % 18446744073709551616) (bit_and (above * 8 % 18446744073709551616) 0x0001041041041040))
    (bit_and (below * 2048 % 18446744073709551616) 0x0020820820820800)

rows_are : (own above below column row : ℕ) → IsWord own → column < 8 → row < 6 → bit_at (columns_of own above below) (6 * column + 6 + row) ≡ six_of own above below column row
rows_are own above below column zero w l m =
    let i : ℕ = 6 * column + 6 + 0 in
    let b = bit_at-lt above (6 * column + 3) in
    let e : bit_at (bit_and (above * 8 % 18446744073709551616) 0x0001041041041040) i ≡ min (bit_at above (6 * column + 3 + 0)) 1 = above_row above column 0 l m in
    let z : 6 * column + 3 + 0 ≡ 6 * column + 3 = omega arith in
    let f : bit_at above (6 * column + 3 + 0) ≡ bit_at above (6 * column + 3) = ap (λ (n : ℕ). bit_at above n) z in
    or_bit (bit_or (own * 128 % 18446744073709551616) (bit_and (above * 8 % 18446744073709551616) 0x0001041041041040)) (bit_and (below * 2048 % 18446744073709551616) 0x0020820820820800) i
    (max 0 (min (bit_at above (6 * column + 3)) 1)) 0
    (or_bit (own * 128 % 18446744073709551616) (bit_and (above * 8 % 18446744073709551616) 0x0001041041041040) i 0 (min (bit_at above (6 * column + 3)) 1)
    (own_none own column w l) (e ∙ ap (λ (n : ℕ). min n 1) f))
    (below_row below column 0 l (omega arith))
    ∙ (let g : max (max 0 (min (bit_at above (6 * column + 3)) 1)) 0 ≡ bit_at above (6 * column + 3) = omega arith in g)
rows_are own above below column (suc row) w l m =
    let i : ℕ = 6 * column + 6 + suc row in
    let e : bit_at (bit_and (above * 8 % 18446744073709551616) 0x0001041041041040) i ≡ 0 =
    above_row above column (suc row) l m
    ∙ (ap (λ (b : Bool). min (bit_at above (6 * column + 3 + suc row)) (if b then 1 else 0)) (ne_eqb (suc row) 0 (λ z. omega arith))
    ∙ (let z : min (bit_at above (6 * column + 3 + suc row)) 0 ≡ 0 = omega arith in z)) in
    let o = bit_at-lt own (6 * column + row) in
    elim (cases_eq row 4) [
      | inl p ↦
          (let n : bit_at own (6 * column + row) ≡ 0 = w.between (6 * column + row) (omega arith) in
          let q : suc row ≡ 5 = omega arith in
          let d : bit_at (bit_and (below * 2048 % 18446744073709551616) 0x0020820820820800) i ≡ bit_at below (6 * column) =
          ap (λ (z : ℕ). bit_at (bit_and (below * 2048 % 18446744073709551616) 0x0020820820820800) (6 * column + 6 + z)) q ∙ below_last below column l in
          or_bit (bit_or (own * 128 % 18446744073709551616) (bit_and (above * 8 % 18446744073709551616) 0x0001041041041040)) (bit_and (below * 2048 % 18446744073709551616) 0x0020820820820800) i
          (max 0 0) (bit_at below (6 * column))
          (or_bit (own * 128 % 18446744073709551616) (bit_and (above * 8 % 18446744073709551616) 0x0001041041041040) i 0 0 (own_bit own column row w l (omega arith) ∙ n) e)
          d
          ∙ (let g : max (max 0 0) (bit_at below (6 * column)) ≡ bit_at below (6 * column) = omega arith in g)
          ∙ sym (ap (λ (b : Bool). if b then bit_at below (6 * column) else bit_at own (6 * column + row)) (eq-eqb row 4 p)))
      | inr p ↦
          (or_bit (bit_or (own * 128 % 18446744073709551616) (bit_and (above * 8 % 18446744073709551616) 0x0001041041041040)) (bit_and (below * 2048 % 18446744073709551616) 0x0020820820820800) i
          (max (bit_at own (6 * column + row)) 0) 0
          (or_bit (own * 128 % 18446744073709551616) (bit_and (above * 8 % 18446744073709551616) 0x0001041041041040) i (bit_at own (6 * column + row)) 0
          (own_bit own column row w l (omega arith)) e)
          (below_row below column (suc row) l (omega arith))
          ∙ (let g : max (max (bit_at own (6 * column + row)) 0) 0 ≡ bit_at own (6 * column + row) = omega arith in g)
          ∙ sym (ap (λ (b : Bool). if b then bit_at below (6 * column) else bit_at own (6 * column + row)) (ne_eqb row 4 p)))
    ]

-- nothing before them
before_above : (i : ℕ) → i < 6 → bit_at 0x0001041041041040 i ≡ 0
before_above i l = eqb-true (bit_at 0x0001041041041040 i) 0 (below_all 6 i (λ (z : ℕ). bit_at 0x0001041041041040 z == 0) refl l)

before_below : (i : ℕ) → i < 6 → bit_at 0x0020820820820800 i ≡ 0
before_below i l = eqb-true (bit_at 0x0020820820820800 i) 0 (below_all 6 i (λ (z : ℕ). bit_at 0x0020820820820800 z == 0) refl l)

masked : (a m i : ℕ) → bit_at m i ≡ 0 → bit_at (bit_and a m) i ≡ 0
masked a m i e = and_bit a m i (bit_at a i) 0 refl e ∙ (let z : min (bit_at a i) 0 ≡ 0 = omega arith in z)

none_before : (own above below i : ℕ) → i < 6 → bit_at (columns_of own above below) i ≡ 0
none_before own above below i l =
    or_bit (bit_or (own * 128 % 18446744073709551616) (bit_and (above * 8 % 18446744073709551616) 0x0001041041041040)) (bit_and (below * 2048 % 18446744073709551616) 0x0020820820820800) i 0 0
    (or_bit (own * 128 % 18446744073709551616) (bit_and (above * 8 % 18446744073709551616) 0x0001041041041040) i 0 0 (bit_shl_low own 7 i (omega arith) (omega arith))
    (masked (above * 8 % 18446744073709551616) 0x0001041041041040 i (before_above i l)))
    (masked (below * 2048 % 18446744073709551616) 0x0020820820820800 i (before_below i l))

-- nor behind them
behind_own : (own i : ℕ) → IsWord own → 54 ≤ i → bit_at (own * 128 % 18446744073709551616) i ≡ 0
behind_own own i w l =
    elim (cases_lt i 64) [
      | inl p ↦
          elim (cases_lt i 55) [
            | inl q ↦ bit_shl own 7 i (omega arith) p ∙ w.between (i - 7) (omega arith)
            | inr q ↦ bit_shl own 7 i (omega arith) p ∙ w.behind (i - 7) (omega arith)
          ]
      | inr p ↦ bit_at_above (own * 128 % 18446744073709551616) 64 i (omega arith) p
    ]

none_behind : (own above below i : ℕ) → IsWord own → 54 ≤ i → bit_at (columns_of own above below) i ≡ 0
none_behind own above below i w l =
    or_bit (bit_or (own * 128 % 18446744073709551616) (bit_and (above * 8 % 18446744073709551616) 0x0001041041041040)) (bit_and (below * 2048 % 18446744073709551616) 0x0020820820820800) i 0 0
    (or_bit (own * 128 % 18446744073709551616) (bit_and (above * 8 % 18446744073709551616) 0x0001041041041040) i 0 0 (behind_own own i w l)
    (masked (above * 8 % 18446744073709551616) 0x0001041041041040 i (bit_at_above 0x0001041041041040 54 i (omega arith) l)))
    (masked (below * 2048 % 18446744073709551616) 0x0020820820820800 i (bit_at_above 0x0020820820820800 54 i (omega arith) l))

pub columns_are : (own above below : ℕ) → IsWord own
    → AreColumns own above below (bit_or (bit_or (own * 128 % 18446744073709551616) (bit_and (above * 8 % 18446744073709551616) 285942833483840))
    (bit_and (below * 2048 % 18446744073709551616) 9150170671482880))
columns_are own above below w = record {
  rows = λ column row l m. rows_are own above below column row w l m;
  before = λ i l. none_before own above below i l;
  behind = λ i l. none_behind own above below i w l;
}

-- the columns beside them
left_bit : (left i : ℕ) → bit_at (left / 281474976710656) i ≡ bit_at left (48 + i)
left_bit left i = let e : i + 48 ≡ 48 + i = omega arith in bit_shr left 48 i ∙ ap (λ (n : ℕ). bit_at left n) e

abbrev window_of : ℕ → ℕ → ℕ → ℕ
window_of left own right = bit_or (bit_or own (left / 281474976710656)) (right * 281474976710656 % 18446744073709551616)

pub window_is : (left own right column row : ℕ) → ((i : ℕ) → 54 ≤ i → bit_at left i ≡ 0) → ((i : ℕ) → i < 6 → bit_at own i ≡ 0)
    → ((i : ℕ) → 54 ≤ i → bit_at own i ≡ 0) → ((i : ℕ) → i < 6 → bit_at right i ≡ 0) → column < 10 → row < 6
    → bit_at (window_of left own right) (6 * column + row) ≡ in_window left own right column row
window_is left own right column row a b d e l m =
    let i : ℕ = 6 * column + row in
    let o = bit_at-lt own i in
    elim (cases_eq column 0) [
      | inl p ↦
          (let j : i ≡ row = omega arith in
          let f : bit_at left (48 + i) ≡ bit_at left (48 + row) = ap (λ (n : ℕ). bit_at left (48 + n)) j in
          or_bit (bit_or own (left / 281474976710656)) (right * 281474976710656 % 18446744073709551616) i (max 0 (bit_at left (48 + row))) 0
          (or_bit own (left / 281474976710656) i 0 (bit_at left (48 + row)) (b i (omega arith)) (left_bit left i ∙ f))
          (bit_shl_low right 48 i (omega arith) (omega arith))
          ∙ (let g : max (max 0 (bit_at left (48 + row))) 0 ≡ bit_at left (48 + row) = omega arith in g)
          ∙ sym (ap (λ (z : Bool). if z then bit_at left (48 + row) else if column == 9 then bit_at right (6 + row) else bit_at own (6 * column + row)) (eq-eqb column 0 p)))
      | inr p ↦
          (let left_none : bit_at (left / 281474976710656) i ≡ 0 = left_bit left i ∙ a (48 + i) (omega arith) in
          let first : in_window left own right column row ≡ (if column == 9 then bit_at right (6 + row) else bit_at own (6 * column + row)) =
          ap (λ (z : Bool). if z then bit_at left (48 + row) else if column == 9 then bit_at right (6 + row) else bit_at own (6 * column + row)) (ne_eqb column 0 p) in
          elim (cases_eq column 9) [
            | inl q ↦
                (let j : i - 48 ≡ 6 + row = omega arith in
                or_bit (bit_or own (left / 281474976710656)) (right * 281474976710656 % 18446744073709551616) i (max 0 0) (bit_at right (6 + row))
                (or_bit own (left / 281474976710656) i 0 0 (d i (omega arith)) left_none)
                (bit_shl right 48 i (omega arith) (omega arith) ∙ ap (λ (n : ℕ). bit_at right n) j)
                ∙ (let g : max (max 0 0) (bit_at right (6 + row)) ≡ bit_at right (6 + row) = omega arith in g)
                ∙ sym (first ∙ ap (λ (z : Bool). if z then bit_at right (6 + row) else bit_at own (6 * column + row)) (eq-eqb column 9 q)))
            | inr q ↦
                (let right_none : bit_at (right * 281474976710656 % 18446744073709551616) i ≡ 0 =
                elim (cases_lt i 48) [
                  | inl r ↦ bit_shl_low right 48 i r (omega arith)
                  | inr r ↦ bit_shl right 48 i r (omega arith) ∙ e (i - 48) (omega arith)
                ] in
                or_bit (bit_or own (left / 281474976710656)) (right * 281474976710656 % 18446744073709551616) i (max (bit_at own i) 0) 0
                (or_bit own (left / 281474976710656) i (bit_at own i) 0 refl left_none)
                right_none
                ∙ (let g : max (max (bit_at own i) 0) 0 ≡ bit_at own i = omega arith in g)
                ∙ sym (first ∙ ap (λ (z : Bool). if z then bit_at right (6 + row) else bit_at own (6 * column + row)) (ne_eqb column 9 q)))
          ])
    ]
