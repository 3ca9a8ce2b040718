use Rattle.jx_geom.proofs.LeafLemmas.{leaf_of, leaf_once, leaf_taken}
use Rattle.jx_geom.proofs.laws.precincts_divide_the_blocks.Goals as goal

pub returns-clause-there : goal.returns-clause-there
returns-clause-there c = λ g comp r k j h there lt.
    let leaf = leaf_of g comp r k j h there lt in
    (leaf.there, leaf.comp, leaf.res)

pub returns-clause-taken : goal.returns-clause-taken
returns-clause-taken c = λ g n h there. leaf_taken g n h there

pub returns-clause-once : goal.returns-clause-once
returns-clause-once c = λ g comp r k j d q m i h there lt there' lt' e. leaf_once g comp r k j d q m i h there lt there' lt' e
