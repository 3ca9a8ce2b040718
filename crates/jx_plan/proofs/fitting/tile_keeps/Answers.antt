use Rattle.std.proofs.Common.{Some}
use Rattle.jx_plan.proofs.FitLemmas.{keeps_where}
use Rattle.jx_plan.proofs.fitting.tile_keeps.Goals as goal

pub returns : goal.returns
returns c = keeps_where (Some c.args.items.now) c.args.stream.now c.args.tile c.in_ok-first.first c.is_none.result c.is_none.ensures c.in_ok-first.ensures
