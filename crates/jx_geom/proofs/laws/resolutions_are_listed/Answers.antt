use Rattle.jx_geom.specs.Geometry.{rect_of_tile}
use Rattle.jx_geom.proofs.TableLemmas.{in_order, listed, has_listed}
use Rattle.jx_geom.proofs.laws.resolutions_are_listed.Goals as goal

pub returns-clause-order : goal.returns-clause-order
returns-clause-order c = λ g. in_order (rect_of_tile g) g.shapes

pub returns-clause-there : goal.returns-clause-there
returns-clause-there c = λ g e h.
    let is = listed g e h in
    (is.there, is.is, is.precincts)

pub returns-clause-every : goal.returns-clause-every
returns-clause-every c = λ g comp r k h. has_listed g comp r k h
