-- How many bytes decisions make: six shifts for each, beside what those before them have spared.
use Rattle.std.proofs.Common.{◌≡◌, ◌<◌, ◌≤◌, ◌+◌, ◌-◌, ◌*◌, ◌/◌, ◌^◌, ℕ, zero, suc, Bool, true, false, List, [], ◌∷◌, ◌&&◌, length, get_or, refl, subst, arith, inl, inr, leb}
use Rattle.std.specs.Prelude.{slice_index_or, slice_set}
use Rattle.std.proofs.lemmas.Bool.{and_parts, cases_lt, le-leb, lt-leb, lt-ltb, le-ltb}
use Rattle.std.proofs.lemmas.Bool.Decides.{nat_tests}
use Rattle.std.proofs.lemmas.Nat.{mul-le, pow_pos}
use Rattle.std.proofs.Math.Nat.{two-pow-succ}
use Rattle.jx_coder_specs.specs.MqTable.{MqContexts, MqRow, mq_adapted, mq_fresh, mq_row, mq_row_at, mq_row_of, mq_rows}
use Rattle.jx_coder_specs.specs.MqWriting.{MqWriter, MqGiven, Decided, Renewed, mq_writer, mq_part, mq_renormalized, mq_shifted, mq_written, mq_wrote, mq_is_mps, mq_after_bit, mq_written_from, mq_write, mq_contexts_after}
use Rattle.jx_mq.specs.Pace.{spared, spared_in}
use Rattle.jx_mq.proofs.Lengths.{Few, both_few, part_few, renormalized_few, segment_most}
use Rattle.jx_mq.proofs.Renormals.{renormalized_done, renormalized_enough, renormalized_more, shifted_a}
use Rattle.jx_mq.proofs.Rows.{row_in_range}

-- ---- the table
-- as many shifts as the less probable symbol may take in a row
abbrev allowed : ℕ → MqRow → ℕ
allowed n row = 6 + spared n - spared row.nlps

abbrev is_paced : ℕ → MqRow → Bool
is_paced n row = (leb 2 (allowed n row) && leb 32768 (row.qe * 2 ^ allowed n row)) && leb (1 + spared row.nmps) (6 + spared n)

record IsPaced (n : ℕ) (row : MqRow) : Type 0 where
  two : 2 ≤ allowed n row
  enough : 32768 ≤ row.qe * 2 ^ allowed n row
  mps : 1 + spared row.nmps ≤ 6 + spared n

paced_by : (n : ℕ) (row : MqRow) → is_paced n row ≡ true → IsPaced n row
paced_by n row h =
    let parts = and_parts (leb 2 (allowed n row) && leb 32768 (row.qe * 2 ^ allowed n row)) (leb (1 + spared row.nmps) (6 + spared n)) h in
    let lps = and_parts (leb 2 (allowed n row)) (leb 32768 (row.qe * 2 ^ allowed n row)) parts.0 in
    record { two = grind (arith, nat_tests, lps.0); enough = grind (arith, nat_tests, lps.1); mps = grind (arith, nat_tests, parts.1) }

all_paced : ℕ → List MqRow → Bool
all_paced n [] = true
all_paced n (row ∷ rows) = is_paced n row && all_paced (suc n) rows

paced_at : (rows : List MqRow) (past : MqRow) (from i n : ℕ) → n ≡ from + i → all_paced from rows ≡ true → ((m : ℕ) → IsPaced m past) → IsPaced n (get_or rows i past)
unfolding all_paced
paced_at [] past from i n e h p = p n
paced_at (row ∷ rows) past from zero n e h p =
    let same : from ≡ n = omega arith in
    subst (λ (m : ℕ). IsPaced m row) same (paced_by from row (and_parts (is_paced from row) (all_paced (suc from) rows) h).0)
paced_at (row ∷ rows) past from (suc i) n e h p = paced_at rows past (suc from) i n (omega arith) (and_parts (is_paced from row) (all_paced (suc from) rows) h).1 p

two_more : (k : ℕ) → 2 ≤ 2 ^ suc k
two_more k = omega (arith, pow_pos k, two-pow-succ k)

past_paced : (n : ℕ) → IsPaced n (mq_row 22017 46 46 false)
unfolding spared
past_paced n =
    let six : allowed n (mq_row 22017 46 46 false) ≡ suc (5 + spared n) = omega arith in
    let two : 2 ≤ 2 ^ allowed n (mq_row 22017 46 46 false) = rw six (two_more (5 + spared n)) in
    record { two = omega arith; enough = omega arith; mps = omega arith }

paced : (n : ℕ) → IsPaced n (mq_row_at n)
unfolding mq_row_at mq_rows all_paced spared
paced n = paced_at mq_rows (mq_row 22017 46 46 false) 0 n n (omega arith) refl (λ m. past_paced m)

-- ---- the part of the interval
-- the more probable symbol takes a shift at most, and none where A keeps bit 15
mps_wide : (w : MqWriter) (qe : ℕ) → 32768 ≤ w.a → 32768 ≤ (mq_part w qe true).a * 2
mps_wide w qe low = elim (cases_lt (w.a - qe) qe) [
  | inl less ↦ rw (lt-ltb (w.a - qe) qe less) (omega arith)
  | inr most ↦ rw (le-ltb (w.a - qe) qe most) (omega arith)
]

mps_whole : (w : MqWriter) (qe : ℕ) → 32768 ≤ w.a - qe → qe ≤ 22017 → 32768 ≤ (mq_part w qe true).a
mps_whole w qe whole most = rw (le-ltb (w.a - qe) qe (omega arith)) whole

four_more : (k : ℕ) → 2 ≤ k → 4 ≤ 2 ^ k
four_more zero le = absurd (omega arith)
four_more (suc zero) le = absurd (omega arith)
four_more (suc (suc k)) le = omega (arith, two_more k, two-pow-succ (suc k))

lps_wide : (w : MqWriter) (qe k : ℕ) → 32768 ≤ w.a → qe ≤ 22017 → 2 ≤ k → 32768 ≤ qe * 2 ^ k → 32768 ≤ (mq_part w qe false).a * 2 ^ k
lps_wide w qe k low most two enough = elim (cases_lt (w.a - qe) qe) [
  | inl less ↦
      let product : 10751 * 4 ≤ (w.a - qe) * 2 ^ k = mul-le 10751 4 (w.a - qe) (2 ^ k) (omega arith) (four_more k two) in
      rw (lt-ltb (w.a - qe) qe less) (omega arith)
  | inr more ↦ rw (le-ltb (w.a - qe) qe more) enough
]

-- A has bit 15 after as many shifts as it needs
renormalized_low : (n : ℕ) (w : MqWriter) → 32768 ≤ w.a * 2 ^ n → 32768 ≤ (mq_renormalized n w).a
renormalized_low zero w enough = rw (renormalized_done zero w (omega arith)) (omega arith)
renormalized_low (suc n) w enough = elim (cases_lt w.a 32768) [
  | inl less ↦
      let twice : (mq_shifted w).a * 2 ^ n ≡ w.a * 2 ^ suc n = twice_of (mq_shifted w).a w.a n (shifted_a w) in
      rw (renormalized_more n w less) (renormalized_low n (mq_shifted w) (rw twice enough))
  | inr most ↦ rw (renormalized_done (suc n) w most) most
]
  where
    twice_of : (a b n : ℕ) → a ≡ 2 * b → a * 2 ^ n ≡ b * 2 ^ suc n
    twice_of a b n e = rw (e, two-pow-succ n) (grind arith)

-- ---- a decision
record IsPacedTo (n spare left : ℕ) (w after : MqWriter) : Type 0 where
  most : 7 * length after.bytes + w.ct + left ≤ 7 * length w.bytes + after.ct + n + spare
  ct : w.ct ≤ 12 → after.ct ≤ 12
  low : 32768 ≤ after.a

-- a part that so many shifts bring to bit 15
by_shifts : (w : MqWriter) (qe : ℕ) (is_mps : Bool) (k spare left : ℕ) → 32768 ≤ (mq_part w qe is_mps).a * 2 ^ k → k + left ≤ 6 + spare
    → 0 < (mq_part w qe is_mps).a → IsPacedTo 6 spare left w (mq_written w qe is_mps)
by_shifts w qe is_mps k spare left enough pays some =
    let part : MqWriter = mq_part w qe is_mps in
    let full : 32768 ≤ part.a * 2 ^ 15 = omega arith in
    let same : mq_renormalized 15 part ≡ mq_renormalized k part = renormalized_enough 15 k part full enough in
    let f : Few (0 + k) w (mq_renormalized k part) = both_few 0 k w part (mq_renormalized k part) (part_few w qe is_mps) (renormalized_few k part) in
    let most = f.most in
    rw same (record { most = omega arith; ct = f.ct; low = renormalized_low k part enough })

positive_of : (a p : ℕ) → 32768 ≤ a * p → 0 < a
positive_of zero p le = absurd (omega arith)
positive_of (suc a) p le = omega arith

spared_set : (rows : List ℕ) (label row : ℕ) → spared_in (slice_set rows label row) + spared (slice_index_or rows label 0) ≤ spared_in rows + spared row
unfolding spared
spared_set [] label row = omega arith
spared_set (first ∷ rows) zero row = omega arith
spared_set (first ∷ rows) (suc label) row = let rest = spared_set rows label row in omega arith

bit_paced : (w : MqWriter) (x : MqContexts) (label : ℕ) (is_mps : Bool) → 32768 ≤ w.a
    → IsPacedTo 6 (spared_in x.rows) (spared_in (mq_adapted w.a x label is_mps).rows) w (mq_written w (mq_row_of x label).qe is_mps)
bit_paced w x label true low =
    let row : MqRow = mq_row_of x label in
    let range = row_in_range (slice_index_or x.rows label 0) in
    let most = range.most in
    elim (cases_lt (w.a - row.qe) 32768) [
      | inl less ↦
          let wide : 32768 ≤ (mq_part w row.qe true).a * 2 ^ 1 = mps_wide w row.qe low in
          let p = paced (slice_index_or x.rows label 0) in
          let mps = p.mps in
          let set = spared_set x.rows label row.nmps in
          rw (lt-leb 32768 (w.a - row.qe) less)
          (by_shifts w row.qe true 1 (spared_in x.rows) (spared_in (slice_set x.rows label row.nmps)) wide (omega arith) (positive_of (mq_part w row.qe true).a (2 ^ 1) wide))
      | inr whole ↦
          let wide : 32768 ≤ (mq_part w row.qe true).a = mps_whole w row.qe whole most in
          rw (le-leb 32768 (w.a - row.qe) whole) (by_shifts w row.qe true 0 (spared_in x.rows) (spared_in x.rows) (omega arith) (omega arith) (omega arith))
    ]
bit_paced w x label false low =
    let row : MqRow = mq_row_of x label in
    let range = row_in_range (slice_index_or x.rows label 0) in
    let most = range.most in
    let p = paced (slice_index_or x.rows label 0) in
    let two = p.two in
    let wide = lps_wide w row.qe (allowed (slice_index_or x.rows label 0) row) low most p.two p.enough in
    let set = spared_set x.rows label row.nlps in
    by_shifts w row.qe false (allowed (slice_index_or x.rows label 0) row) (spared_in x.rows) (spared_in (slice_set x.rows label row.nlps)) wide (omega arith)
    (positive_of (mq_part w row.qe false).a (2 ^ allowed (slice_index_or x.rows label 0) row) wide)

-- ---- a list
pub fresh_spares_none : spared_in mq_fresh.rows ≡ 0
unfolding spared
fresh_spares_none = refl

written_paced : (given : List MqGiven) (w : MqWriter) (x : MqContexts) → 32768 ≤ w.a
    → IsPacedTo (6 * length given) (spared_in x.rows) (spared_in (mq_written_from w x given).contexts.rows) w (mq_written_from w x given).writer
written_paced [] w x low = record { most = omega arith; ct = λ h. h; low = low }
written_paced (Decided label bit ∷ given) w x low =
    let one = bit_paced w x label (mq_is_mps x label bit) low in
    let rest = written_paced given (mq_wrote w x label bit) (mq_after_bit w x label bit) one.low in
    let a = one.most in
    let b = rest.most in
    record { most = omega arith; ct = λ h. rest.ct (one.ct h); low = rest.low }
written_paced (Renewed ∷ given) w x low =
    let rest = written_paced given w mq_fresh low in
    let none = fresh_spares_none in
    let b = rest.most in
    record { most = omega arith; ct = rest.ct; low = rest.low }

pub short_segment : (x : MqContexts) (given : List MqGiven) → 7 * length (mq_write x given) + spared_in (mq_contexts_after x given).rows ≤ 6 * length given + 14 + spared_in x.rows
short_segment x given =
    let w : MqWriter = (mq_written_from mq_writer x given).writer in
    let p = written_paced given mq_writer x (omega arith) in
    let most = p.most in
    let ct : w.ct ≤ 12 = p.ct (omega arith) in
    let whole = segment_most w in
    omega arith

pub short_from_fresh : (given : List MqGiven) → length (mq_write mq_fresh given) ≤ 6 * length given / 7 + 2
short_from_fresh given =
    let short = short_segment mq_fresh given in
    let none = fresh_spares_none in
    omega arith
