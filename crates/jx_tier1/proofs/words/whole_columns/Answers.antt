use Rattle.jx_tier1.proofs.RunColumns.{columns_first, columns_other, columns_behind}
use Rattle.jx_tier1.proofs.words.whole_columns.Goals as goal

pub returns : goal.returns
returns c = record {
  first = λ i l r. columns_first c.args.places i l r;
  others = λ i n. columns_other c.args.places i n;
  behind = λ i l. columns_behind c.args.places i l;
}
