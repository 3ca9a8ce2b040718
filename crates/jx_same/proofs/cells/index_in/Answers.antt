use Rattle.std.proofs.Common.{arith}
use Rattle.jx_same.proofs.RowLemmas.{row_in}
use Rattle.jx_same.proofs.cells.index_in.Goals as goal

pub overflow_mul-first : goal.overflow_mul-first
overflow_mul-first c = let w = c.args.walk in omega (arith, row_in c.args.row c.args.column w.wide w.high w.count c.requires.row c.requires.column c.requires.count)

pub overflow_add-result : goal.overflow_add-result
overflow_add-result c = let w = c.args.walk in omega (arith, row_in c.args.row c.args.column w.wide w.high w.count c.requires.row c.requires.column c.requires.count)

pub returns-clause-within : goal.returns-clause-within
returns-clause-within c = let w = c.args.walk in row_in c.args.row c.args.column w.wide w.high w.count c.requires.row c.requires.column c.requires.count
