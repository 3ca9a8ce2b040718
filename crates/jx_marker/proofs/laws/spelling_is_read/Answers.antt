use Rattle.jx_marker.proofs.SpelledLemmas.{segment_is_read}
use Rattle.jx_marker.proofs.laws.spelling_is_read.Goals as goal

pub returns : goal.returns
returns c = segment_is_read
