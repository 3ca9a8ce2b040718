use Rattle.jx_tagtree.specs.Shape.{root}
use Rattle.jx_tagtree.proofs.ShapeLemmas.{Rises}
use Rattle.jx_tagtree.proofs.shape.count_nodes.Given as goal

-- the root's number, seen from here
abbrev pub invariant-loop : goal.invariant-loop
invariant-loop l = Rises (root l.fn.wide l.fn.high) l.counter l.level
