use Rattle.jx_tagtree.proofs.OneLeafLemmas.{fresh_one}
use Rattle.jx_tagtree.proofs.tag_reader.TagReader.new.Goals as goal

pub returns-then-high-eq1 : goal.returns-then-high-eq1
returns-then-high-eq1 c = record { fresh = fresh_one c.unknown.result c.args.wide c.args.high c.unknown.ensures c.if-wide-eq1.true c.if-high-eq1.true }
