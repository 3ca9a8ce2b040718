-- What is true of a written tag tree's fields.
use Rattle.std.specs.Prelude.{◌≡◌, ℕ, ◌+◌, ◌*◌, ◌≤◌, List, length, take, slice_index}
use Rattle.jx_tagtree.specs.declared.node.Node.{Node}
use Rattle.jx_tagtree.specs.declared.shape.Level.{Level}
use Rattle.jx_tagtree.specs.Shape.{IsShape, root, levels_of}
use Rattle.jx_tagtree.specs.Leaves.{least_leaf}

-- the leaves, which are the first of the nodes
abbrev pub leaves_in : ℕ → ℕ → List ℕ → List ℕ
leaves_in wide high values = take (wide * high) values

-- the values of the nodes are those of the leaves
pub record AreNodeValues (wide high : ℕ) (leaves values : List ℕ) : Type 0 where
  pub long : length values ≡ root wide high + 1
  pub each : (n : ℕ) → n ≤ root wide high → slice_index values n ≡ least_leaf wide high leaves n

pub record KeepsLeaves (wide high : ℕ) (values : List ℕ) (nodes : List Node) : Type 0 where
  pub shape : IsShape wide high
  pub long : length nodes ≡ root wide high + 1
  pub are_values : AreNodeValues wide high (leaves_in wide high values) values

-- with the table of its levels
pub record KeepsWriter (wide high : ℕ) (levels : List Level) (values : List ℕ) (nodes : List Node) : Type 0 where
  pub tree : KeepsLeaves wide high values nodes
  pub levels_are : levels ≡ levels_of wide high
