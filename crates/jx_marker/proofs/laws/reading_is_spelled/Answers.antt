use Rattle.jx_marker.proofs.ReadLemmas.{segment_is_spelled}
use Rattle.jx_marker.proofs.laws.reading_is_spelled.Goals as goal

pub returns : goal.returns
returns c = segment_is_spelled
