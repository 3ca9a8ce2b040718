-- What holds of every row of the table.
use Rattle.std.proofs.Common.{◌≡◌, ◌<◌, ◌≤◌, ℕ, zero, suc, Bool, true, false, List, [], ◌∷◌, ◌&&◌, get_or, refl, arith, ltb, leb}
use Rattle.std.proofs.lemmas.Bool.Decides.{nat_tests}
use Rattle.jx_coder_specs.specs.MqTable.{MqRow, mq_row, mq_rows, mq_row_at}
use Rattle.std.proofs.lemmas.Bool.{and_parts}

holds_of : (MqRow → Bool) → List MqRow → Bool
holds_of test [] = true
holds_of test (row ∷ rows) = test row && holds_of test rows

holds_at : (test : MqRow → Bool) (rows : List MqRow) (past : MqRow) (n : ℕ) → holds_of test rows ≡ true → test past ≡ true → test (get_or rows n past) ≡ true
unfolding holds_of
holds_at test [] past n h p = p
holds_at test (row ∷ rows) past zero h p = (and_parts (test row) (holds_of test rows) h).0
holds_at test (row ∷ rows) past (suc n) h p = holds_at test rows past n (and_parts (test row) (holds_of test rows) h).1 p

abbrev is_in_range : MqRow → Bool
is_in_range row = (ltb 0 row.qe && leb row.qe 22017) && (ltb row.nmps 47 && ltb row.nlps 47)

pub record IsRow (row : MqRow) : Type 0 where
  pub some : 0 < row.qe
  pub most : row.qe ≤ 22017
  pub after_mps : row.nmps < 47
  pub after_lps : row.nlps < 47

in_range : (row : MqRow) → is_in_range row ≡ true → IsRow row
in_range row h =
    let parts = and_parts (ltb 0 row.qe && leb row.qe 22017) (ltb row.nmps 47 && ltb row.nlps 47) h in
    let low = and_parts (ltb 0 row.qe) (leb row.qe 22017) parts.0 in
    let high = and_parts (ltb row.nmps 47) (ltb row.nlps 47) parts.1 in
    record { some = grind (arith, nat_tests, low.0); most = grind (arith, nat_tests, low.1); after_mps = grind (arith, nat_tests, high.0); after_lps = grind (arith, nat_tests, high.1) }

pub row_in_range : (n : ℕ) → IsRow (mq_row_at n)
unfolding mq_row_at mq_rows holds_of
row_in_range n = in_range (mq_row_at n) (holds_at (λ row. is_in_range row) mq_rows (mq_row 22017 46 46 false) n refl refl)
