use Rattle.std.proofs.Common.{◌*◌}
use Rattle.jx_tier2_writer.proofs.IndexLemmas.{run_taken}
use Rattle.jx_tier2_writer.proofs.index.run_in.Goals as goal

pub returns-clause-value : goal.returns-clause-value
returns-clause-value c = run_taken 10921 c.min.result (10921 * c.args.number) c.args.lengths.now c.min.ensures
