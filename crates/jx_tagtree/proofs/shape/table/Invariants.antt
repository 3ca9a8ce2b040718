use Rattle.std.proofs.Common.{◌-◌, length}
use Rattle.jx_tagtree.specs.Shape.{levels_of}
use Rattle.jx_tagtree.proofs.ShapeLemmas.{Stacks}
use Rattle.jx_tagtree.proofs.shape.table.Given as goal

-- the levels so far and those from here are the whole table
abbrev pub invariant-loop-levels : goal.invariant-loop-levels
invariant-loop-levels l = Stacks (levels_of l.fn.wide l.fn.high) l.levels.items l.level

abbrev pub decreases-loop-levels : goal.decreases-loop-levels
decreases-loop-levels l = 22 - length l.levels.items
