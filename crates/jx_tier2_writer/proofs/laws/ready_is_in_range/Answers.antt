use Rattle.jx_tier2_writer.proofs.ReadyLemmas.{ready_geometry, ready_in_range, ready_list, ready_whole}
use Rattle.jx_tier2_writer.proofs.laws.ready_is_in_range.Goals as goal

pub returns-clause-stream : goal.returns-clause-stream
returns-clause-stream c = ready_in_range

pub returns-clause-geometry : goal.returns-clause-geometry
returns-clause-geometry c = ready_geometry

pub returns-clause-whole : goal.returns-clause-whole
returns-clause-whole c = ready_whole

pub returns-clause-list : goal.returns-clause-list
returns-clause-list c = ready_list
