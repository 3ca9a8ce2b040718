use Rattle.std.proofs.Common.{◌*◌}
use Rattle.jx_progression.proofs.PlacesLemmas.{run_taken}
use Rattle.jx_progression.proofs.table.group_of.Goals as goal

pub returns : goal.returns
returns c = run_taken 128 c.min.result (128 * c.args.group) c.args.places.now c.min.ensures
