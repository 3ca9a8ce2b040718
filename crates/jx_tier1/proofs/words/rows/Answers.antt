use Rattle.std.proofs.Common.{arith}
use Rattle.jx_tier1.proofs.RowLemmas.{no_rows, one_row, two_rows, three_rows, four_rows, rows_as}
use Rattle.jx_tier1.proofs.words.rows.Goals as goal

pub returns-then-count-eq0 : goal.returns-then-count-eq0
returns-then-count-eq0 c = λ i l. rows_as 0 0 c.args.count i (no_rows i l) (omega arith)

pub returns-then-count-eq1 : goal.returns-then-count-eq1
returns-then-count-eq1 c = λ i l. rows_as 0x041041041041 1 c.args.count i (one_row i l) (omega arith)

pub returns-then-count-eq2 : goal.returns-then-count-eq2
returns-then-count-eq2 c = λ i l. rows_as 0x0C30C30C30C3 2 c.args.count i (two_rows i l) (omega arith)

pub returns-then-count-eq3 : goal.returns-then-count-eq3
returns-then-count-eq3 c = λ i l. rows_as 0x1C71C71C71C7 3 c.args.count i (three_rows i l) (omega arith)

pub returns : goal.returns
returns c = λ i l. rows_as 0x3CF3CF3CF3CF 4 c.args.count i (four_rows i l) (omega arith)
