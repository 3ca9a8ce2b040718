-- Tag trees (ITU-T T.800, B.10.2): what a query at a leaf reads or writes, from the values of the nodes and from what is
-- known of them.
use Rattle.std.specs.Prelude.{◌≡◌, ℕ, ◌+◌, ◌-◌, ◌<◌, ◌≤◌, min, max, nat_lt, nat_le, Bool, true, false, ◌||◌, List, [], ◌∷◌, ◌++◌, length, replicate, slice_set, slice_index_or, if◌then◌else◌}
use Rattle.jx_tagtree.specs.declared.node.Node.{Node}
use Rattle.jx_tagtree.specs.Header.{Reading, to_come, advance}
use Rattle.jx_tagtree.specs.Shape.{root, parent, way}

-- of a node nothing is known but that its value isn't negative
abbrev pub unknown : Node
unknown = record { known = 0; settled = false }

-- a tag tree that is read: its size in leaves, and what is known of each node
pub record Tree : Type 0 where
  pub wide : ℕ
  pub high : ℕ
  pub nodes : List Node

-- a tag tree of which nothing is known
abbrev pub fresh : ℕ → ℕ → Tree
fresh wide high = record { wide = wide; high = high; nodes = replicate (root wide high + 1) unknown }

abbrev pub node_at : List Node → ℕ → Node
node_at nodes n = slice_index_or nodes n unknown

-- a node has no bits at a threshold where it is settled, or where the start reaches the threshold
abbrev pub is_told : Node → ℕ → ℕ → Bool
is_told node start threshold = node.settled || nat_le threshold start

-- The bits of one node of value m at a threshold, from a start: as many zeros as the value or the threshold is above the
-- start, then a 1 where the value is below the threshold.
abbrev pub node_bits : Node → ℕ → ℕ → ℕ → List Bool
node_bits node start m threshold =
    if is_told node start threshold then [] else replicate (min m threshold - start) false ++ (if nat_lt m threshold then true ∷ [] else [])

-- what is known of it afterwards: a node without bits stays as it was
abbrev pub node_after : Node → ℕ → ℕ → ℕ → Node
node_after node start m threshold =
    if is_told node start threshold then node else record { known = max start (min m threshold); settled = nat_lt m threshold }

-- what a query has done: what is known of the nodes, what the last of its way is at least by all of them, and the bits
pub record Walk : Type 0 where
  pub nodes : List Node
  pub known : ℕ
  pub bits : List Bool

-- a node after its parent: it starts at the larger of what is known of both
abbrev pub step : (ℕ → ℕ) → ℕ → ℕ → Walk → Walk
step values threshold n above =
    let node = node_at above.nodes n in
    let start = max node.known above.known in
    let after = node_after node start (values n) threshold in
    record {
      nodes = slice_set above.nodes n after;
      known = max above.known after.known;
      bits = above.bits ++ node_bits node start (values n) threshold;
    }

-- A query walks from the root down: its way has the leaf first, and behind each node its parent.
abbrev pub walk : (ℕ → ℕ) → ℕ → List Node → List ℕ → Walk
walk values threshold nodes [] = record { nodes = nodes; known = 0; bits = [] }
walk values threshold nodes (n ∷ over) = step values threshold n (walk values threshold nodes over)

-- a query at a leaf with a threshold, in a tree whose nodes have these values
abbrev pub query : (ℕ → ℕ) → Tree → ℕ → ℕ → Walk
query values tree leaf threshold = walk values threshold tree.nodes (way tree.wide tree.high leaf)

-- the tree after it
abbrev pub tree_after : (ℕ → ℕ) → Tree → ℕ → ℕ → Tree
tree_after values tree leaf threshold = record tree { nodes = (query values tree leaf threshold).nodes }

-- values of the nodes, each at least its parent's
abbrev pub AreValues : ℕ → ℕ → (ℕ → ℕ) → Type 0
AreValues wide high values = (n : ℕ) → n < root wide high → values (parent wide high n) ≤ values n

-- a value that agrees with what is known of its node
pub record IsValueOf (node : Node) (m : ℕ) : Type 0 where
  pub known : node.known ≤ m
  pub settled : node.settled ≡ true → node.known ≡ m

-- values that agree with what is known
abbrev pub Agree : (ℕ → ℕ) → List Node → Type 0
Agree values nodes = (n : ℕ) → IsValueOf (node_at nodes n) (values n)

-- The values of a tree that agree with what is known of it.
pub record ValuesOf (tree : Tree) (values : ℕ → ℕ) : Type 0 where
  pub are : AreValues tree.wide tree.high values
  pub agree : Agree values tree.nodes

-- What can be known of a tree: where a node is settled, so is its parent, and the parent's value isn't larger.
abbrev pub IsSound : ℕ → ℕ → List Node → Type 0
IsSound wide high nodes = (n : ℕ) → n < root wide high → (node_at nodes n).settled ≡ true →
    ((node_at nodes (parent wide high n)).settled ≡ true) × ((node_at nodes (parent wide high n)).known ≤ (node_at nodes n).known)

-- a tree that has each of its nodes, of which what is known can be known
pub record IsTree (tree : Tree) : Type 0 where
  pub nodes : length tree.nodes ≡ root tree.wide tree.high + 1
  pub sound : IsSound tree.wide tree.high tree.nodes

-- What a query at a leaf has read, for some values of the nodes: exactly the query's bits, whether the leaf's value is below
-- the threshold, and what is known afterwards.
pub record HasRead (values : ℕ → ℕ) (leaf threshold : ℕ) (below : Bool) (old : Tree) (from : Reading) (new : Tree) (to : Reading) : Type 0 where
  pub before : ValuesOf old values
  pub bits : to_come from ≡ (query values old leaf threshold).bits ++ to_come to
  pub place : to ≡ advance from (length (query values old leaf threshold).bits)
  pub answer : below ≡ nat_lt (values leaf) threshold
  pub after : new ≡ tree_after values old leaf threshold
  pub still : ValuesOf new values

-- A query that has no bits: it tells nothing, and the value isn't below the threshold.
pub record HasNothing (tree : Tree) (values : ℕ → ℕ) (leaf threshold : ℕ) : Type 0 where
  pub bits : (query values tree leaf threshold).bits ≡ []
  pub after : tree_after values tree leaf threshold ≡ tree
  pub answer : nat_lt (values leaf) threshold ≡ false
