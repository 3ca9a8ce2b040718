use Rattle.jx_geom.proofs.ComponentLemmas.{component_to, component_from}
use Rattle.jx_geom.proofs.laws.components_are_sets.Goals as goal

pub returns : goal.returns
returns c = λ tile s x y h. (component_to tile s x y h, component_from tile s x y h)
