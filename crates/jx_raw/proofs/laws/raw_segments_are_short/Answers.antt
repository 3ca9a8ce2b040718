use Rattle.jx_raw.proofs.Lengths.{short_segment}
use Rattle.jx_raw.proofs.laws.raw_segments_are_short.Goals as goal

pub returns : goal.returns
returns c = short_segment
