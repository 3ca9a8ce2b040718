use Rattle.jx_geom.proofs.PrecinctLemmas.{precinct_below, precinct_grows, precinct_taken}
use Rattle.jx_geom.proofs.laws.precincts_are_numbered.Goals as goal

pub returns-clause-below : goal.returns-clause-below
returns-clause-below c = λ g comp r k h. precinct_below g comp r k h

pub returns-clause-later : goal.returns-clause-later
returns-clause-later c = λ g comp r k d q m h h' before. precinct_grows g comp r k d q m h h' before

pub returns-clause-taken : goal.returns-clause-taken
returns-clause-taken c = λ g n lt.
    let at = precinct_taken g n lt in
    (at.comp, at.res, at.index, (at.there, at.number))
