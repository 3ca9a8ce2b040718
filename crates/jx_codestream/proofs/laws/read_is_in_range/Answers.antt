use Rattle.jx_codestream.proofs.RangeLemmas.{read_in_range, tile_in_range}
use Rattle.jx_codestream.proofs.laws.read_is_in_range.Goals as goal

pub returns-clause-stream : goal.returns-clause-stream
returns-clause-stream c = read_in_range

pub returns-clause-tiles : goal.returns-clause-tiles
returns-clause-tiles c = tile_in_range
