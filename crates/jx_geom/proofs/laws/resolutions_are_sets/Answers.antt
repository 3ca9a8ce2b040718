use Rattle.jx_geom.proofs.SetLemmas.{resolution_to, resolution_from}
use Rattle.jx_geom.proofs.laws.resolutions_are_sets.Goals as goal

pub returns : goal.returns
returns c = λ tile s r x y h. (resolution_to tile s r x y h, resolution_from tile s r x y h)
