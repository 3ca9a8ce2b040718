-- How a tag tree that is read is kept.
use Rattle.std.specs.Prelude.{[], ◌∷◌}
use Rattle.jx_tagtree.specs.TagTree.{Tree}
use Rattle.jx_tagtree.specs.declared.node.Node.{Node}
use Rattle.jx_tagtree.specs.declared.tag_reader.Form.{Form}
use Rattle.jx_tagtree.specs.declared.tag_reader.Form.TheVariants.{Leaf, More}

-- a tag tree of one leaf
abbrev pub one_leaf : Node → Tree
one_leaf node = record { wide = 1; high = 1; nodes = node ∷ [] }

abbrev pub tree_in : Form → Tree
tree_in (Leaf node) = one_leaf node
tree_in (More tree) = tree.value
