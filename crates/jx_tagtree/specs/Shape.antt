-- The nodes of a tag tree (ITU-T T.800, B.10.2). They are numbered from the leaves' level up to the root, in raster order
-- within a level. Each level is half as wide and high as the one below, rounded up.
use Rattle.std.specs.Prelude.{ℕ, zero, suc, ◌+◌, ◌-◌, ◌*◌, ◌/◌, ◌%◌, ◌^◌, ◌<◌, ◌≤◌, nat_lt, nat_le, Bool, ◌&&◌, List, [], ◌∷◌, length, slice_index, if◌then◌else◌}
use Rattle.jx_tagtree.specs.declared.shape.Level.{Level}
use Rattle.jx_base.specs.Limits.{most_blocks}

-- the sizes that a tag tree may have, in leaves
pub record IsShape (wide high : ℕ) : Type 0 where
  pub some : 1 ≤ wide * high
  pub few : wide * high ≤ most_blocks

-- the level of the leaves
abbrev pub base : ℕ → ℕ → Level
base wide high = record { first = 0; wide = wide; high = high }

-- the level of the root has one node
abbrev pub is_root : Level → Bool
is_root level = nat_le level.wide 1 && nat_le level.high 1

-- the next level
abbrev pub over : Level → Level
over level = record { first = level.first + level.wide * level.high; wide = (level.wide + 1) / 2; high = (level.high + 1) / 2 }

-- the parent of a node of a level: a quarter of the place
abbrev pub parent_at : Level → ℕ → ℕ
parent_at level n =
    (over level).first + (n - level.first) / level.wide / 2 * (over level).wide + (n - level.first) % level.wide / 2

-- the number of the root, n levels above at most
abbrev pub root_from : ℕ → Level → ℕ
root_from zero level = level.first
root_from (suc n) level = if is_root level then level.first else root_from n (over level)

unfoldable pub root : ℕ → ℕ → ℕ
root wide high = root_from 22 (base wide high)

-- the parent of a node in a level or at most n above
abbrev pub parent_from : ℕ → Level → ℕ → ℕ
parent_from zero level node = node
parent_from (suc n) level node = if nat_lt node (over level).first then parent_at level node else parent_from n (over level) node

unfoldable pub parent : ℕ → ℕ → ℕ → ℕ
parent wide high node = parent_from 22 (base wide high) node

-- the way from a node of a level up to the root
abbrev pub way_from : ℕ → Level → ℕ → List ℕ
way_from zero level node = node ∷ []
way_from (suc n) level node = if is_root level then node ∷ [] else node ∷ way_from n (over level) (parent_at level node)

-- the way from a leaf to the root: the leaf first, and behind each node its parent
unfoldable pub way : ℕ → ℕ → ℕ → List ℕ
way wide high leaf = way_from 22 (base wide high) leaf

-- the levels from one up to the root's, of which at most n are above it
abbrev pub levels_from : ℕ → Level → List Level
levels_from zero level = level ∷ []
levels_from (suc n) level = if is_root level then level ∷ [] else level ∷ levels_from n (over level)

unfoldable pub levels_of : ℕ → ℕ → List Level
levels_of wide high = levels_from 22 (base wide high)

-- the node of a level that stands down and across from the level's first
abbrev pub node_in : Level → ℕ → ℕ → ℕ
node_in level down across = level.first + down * level.wide + across

-- that node and those over it: the place is halved with each level
abbrev pub nodes_over : List Level → ℕ → ℕ → List ℕ
nodes_over [] down across = []
nodes_over (level ∷ levels) down across = node_in level down across ∷ nodes_over levels (down / 2) (across / 2)

-- what is true of the fields of a way
pub record FitsWay (levels : List Level) (down across : ℕ) : Type 0 where
  pub few : length levels ≤ 23
  pub fits : (k : ℕ) → k < length levels → slice_index (nodes_over levels down across) k < 2 ^ 32

-- a level with at most n above it
pub record IsLevel (n : ℕ) (level : Level) : Type 0 where
  pub some_wide : 1 ≤ level.wide
  pub some_high : 1 ≤ level.high
  pub wide : level.wide ≤ 2 ^ n
  pub high : level.high ≤ 2 ^ n
  pub few : level.wide * level.high ≤ most_blocks
  pub within : n ≤ 22
  pub first : level.first ≤ (22 - n) * most_blocks

-- a node of a level
pub record InLevel (level : Level) (node : ℕ) : Type 0 where
  pub first : level.first ≤ node
  pub last : node < level.first + level.wide * level.high
