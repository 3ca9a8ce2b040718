use Rattle.std.proofs.Common.{◌*◌, arith}
use Rattle.std.proofs.lemmas.Nat.{one_shl, pow_pos}
use Rattle.jx_tier1.proofs.RowLemmas.{ones_below, ones_behind}
use Rattle.jx_tier1.proofs.words.first_columns.Goals as goal

pub overflow_sub-result : goal.overflow_sub-result
overflow_sub-result c = omega (arith, one_shl (6 * c.args.count) 64 (omega arith), pow_pos (6 * c.args.count))

pub returns : goal.returns
returns c = record {
  below = λ i l. ones_below (6 * c.args.count) i (omega arith) l;
  behind = λ i l. ones_behind (6 * c.args.count) i (omega arith) l;
}
