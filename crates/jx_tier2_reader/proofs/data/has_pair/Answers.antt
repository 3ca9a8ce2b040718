use Rattle.std.proofs.Common.{◌∙◌}
use Rattle.jx_tier2_reader.proofs.DataLemmas.{pair_on}
use Rattle.jx_tier2_reader.proofs.data.has_pair.Goals as goal

pub loop-i-preserved : goal.loop-i-preserved
loop-i-preserved c = pair_on c.args.bytes.now c.loop-i.i c.loop-i.found c.loop-i.auto.i c.loop-i-test.true ∙ c.loop-i.invariant
