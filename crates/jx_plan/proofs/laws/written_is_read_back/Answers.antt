use Rattle.jx_plan.proofs.ReadBackLemmas.{tile_with_more, stream_with_more}
use Rattle.jx_plan.proofs.laws.written_is_read_back.Goals as goal

pub returns-clause-tile : goal.returns-clause-tile
returns-clause-tile c = λ a comps main m t own have. tile_with_more a comps main m t own have

pub returns-clause-stream : goal.returns-clause-stream
returns-clause-stream c = λ a s other parts stand siz main tiles each. stream_with_more a s other parts stand siz main tiles each
