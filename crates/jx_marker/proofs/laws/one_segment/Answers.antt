use Rattle.jx_marker.proofs.OneLemmas.{at_most_one}
use Rattle.jx_marker.proofs.laws.one_segment.Goals as goal

pub returns : goal.returns
returns c = at_most_one
