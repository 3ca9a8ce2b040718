-- What is past a threshold in a tag tree (ITU-T T.800, B.10.2): a query with it has no bits there.
use Rattle.std.specs.Prelude.{◌≡◌, ℕ, suc, ◌/◌, ◌%◌, ◌^◌, ◌<◌, ◌≤◌, true, false, List, length, slice_index}
use Rattle.jx_tagtree.specs.declared.node.Node.{Node}
use Rattle.jx_tagtree.specs.Shape.{way}
use Rattle.jx_tagtree.specs.TagTree.{Tree, node_at}

-- A way stops at a node that isn't settled and whose value is known to reach the threshold, under nodes that are settled.
pub record Stops (nodes : List Node) (ways : List ℕ) (place threshold : ℕ) : Type 0 where
  pub inside : place < length ways
  pub unsettled : (node_at nodes (slice_index ways place)).settled ≡ false
  pub reached : threshold ≤ (node_at nodes (slice_index ways place)).known
  pub over : suc place < length ways → (node_at nodes (slice_index ways (suc place))).settled ≡ true

-- a leaf whose way stops
pub record IsPast (tree : Tree) (leaf threshold : ℕ) : Type 0 where
  pub place : ℕ
  pub stops : Stops tree.nodes (way tree.wide tree.high leaf) place threshold

-- two leaves under one node, at a place of their ways
pub record AreUnder (wide place leaf other : ℕ) : Type 0 where
  pub row : other / wide / 2 ^ place ≡ leaf / wide / 2 ^ place
  pub column : other % wide / 2 ^ place ≡ leaf % wide / 2 ^ place
