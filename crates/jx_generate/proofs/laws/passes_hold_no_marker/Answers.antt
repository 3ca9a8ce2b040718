use Rattle.jx_generate.proofs.DrawnFits.{one_clear}
use Rattle.jx_generate.proofs.laws.passes_hold_no_marker.Goals as goal

pub returns : goal.returns
returns c = one_clear
