-- What is true of a tag tree's fields.
use Rattle.std.specs.Prelude.{◌≡◌, ℕ, ◌+◌, ◌*◌, ◌<◌, List, length}
use Rattle.jx_tagtree.specs.declared.node.Node.{Node}
use Rattle.jx_tagtree.specs.declared.shape.Level.{Level}
use Rattle.jx_tagtree.specs.Shape.{IsShape, root, levels_of, way}
use Rattle.jx_tagtree.specs.TagTree.{IsSound}

pub record KeepsTree (wide high : ℕ) (nodes : List Node) : Type 0 where
  pub shape : IsShape wide high
  pub long : length nodes ≡ root wide high + 1
  pub sound : IsSound wide high nodes

-- with the table of its levels
pub record KeepsReader (wide high : ℕ) (levels : List Level) (nodes : List Node) : Type 0 where
  pub tree : KeepsTree wide high nodes
  pub levels_are : levels ≡ levels_of wide high

-- nodes of a tag tree, and the way of one of its leaves
pub record IsWayIn (nodes : List Node) (leaf : ℕ) (ways : List ℕ) : Type 0 where
  pub wide : ℕ
  pub high : ℕ
  pub tree : KeepsTree wide high nodes
  pub inside : leaf < wide * high
  pub is : ways ≡ way wide high leaf
