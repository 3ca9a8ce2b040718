-- Numbers of one window, each at its own place.
use Rattle.std.proofs.Common.{◌≡◌, ◌≢◌, ℕ, ◌+◌, ◌*◌, ◌/◌, ◌%◌, ◌<◌, ◌≤◌, ◌⊎◌, sym, inl, inr, arith, mul-le-mul_left}
use Rattle.std.proofs.lemmas.Bool.{cases_lt}

same_round : (w i j q p : ℕ) → w * q + i % w ≡ i → w * p + j % w ≡ j → i % w ≡ j % w → i ≤ j → j < i + w → (q < p) ⊎ (p ≤ q) → i ≡ j
same_round w i j q p ei ej e le lt (inl more) = let m = mul-le-mul_left w more in absurd (omega (arith, m))
same_round w i j q p ei ej e le lt (inr less) = let m = mul-le-mul_left w less in omega (arith, m)

pub one_place : (w i j : ℕ) → 0 < w → i ≤ j → j < i + w → i % w ≡ j % w → i ≡ j
one_place w i j some le lt e = same_round w i j (i / w) (j / w) (omega arith) (omega arith) e le lt (cases_lt (i / w) (j / w))

pub apart : (d w i j : ℕ) → 0 < w → d ≤ i → d ≤ j → i < d + w → j < d + w → i ≢ j → i % w ≢ j % w
apart d w i j some di dj iw jw ne e = elim (cases_lt i j) [ inl lt ↦ ne (one_place w i j some (omega arith) (omega arith) e) | inr le ↦ ne (sym (one_place w j i some le (omega arith) (sym e))) ]
