-- What the reader of a tag tree does with bits whose values it doesn't know: the contracts of its inner functions say it,
-- and laws tie it to the values.
use Rattle.std.specs.Prelude.{◌≡◌, ℕ, zero, suc, ◌+◌, ◌-◌, max, nat_lt, ◌&&◌, Bool, true, false, List, [], ◌∷◌, drop, slice_set, Option, Some, None, option_map, option_and_then, if◌then◌else◌}
use Rattle.jx_tagtree.specs.declared.node.Node.{Node}
use Rattle.jx_tagtree.specs.TagTree.{node_at, is_told}

-- at most n zeros, whether a 1 ended them before, and the bits behind
pub record Zeros : Type 0 where
  pub zeros : ℕ
  pub one : Bool
  pub rest : List Bool

abbrev pub more_zeros : ℕ → Zeros → Zeros
more_zeros n z = record z { zeros = n + z.zeros }

abbrev pub scan : ℕ → List Bool → Option Zeros
scan zero bits = Some (record { zeros = 0; one = false; rest = bits })
scan (suc n) [] = None
scan (suc n) (true ∷ bits) = Some (record { zeros = 0; one = true; rest = bits })
scan (suc n) (false ∷ bits) = option_map (more_zeros 1) (scan n bits)

-- a node after its bits, and the bits behind them
pub record Found : Type 0 where
  pub node : Node
  pub rest : List Bool

abbrev pub found : ℕ → Zeros → Found
found start z = record { node = record { known = start + z.zeros; settled = z.one }; rest = z.rest }

abbrev pub scan_one : ℕ → Node → ℕ → List Bool → Option Found
scan_one threshold node above bits =
    if is_told node (max node.known above) threshold then Some (record { node = node; rest = bits })
    else option_map (found (max node.known above)) (scan (threshold - max node.known above) bits)

-- the nodes after the bits of a way, what its last node is at least, and the bits behind
pub record Scanned : Type 0 where
  pub nodes : List Node
  pub known : ℕ
  pub rest : List Bool

abbrev pub scanned : ℕ → Scanned → Found → Scanned
scanned n above f = record { nodes = slice_set above.nodes n f.node; known = max above.known f.node.known; rest = f.rest }

abbrev pub scan_node : ℕ → ℕ → Scanned → Option Scanned
scan_node threshold n above = option_map (scanned n above) (scan_one threshold (node_at above.nodes n) above.known above.rest)

abbrev pub scan_way : ℕ → List Node → List ℕ → List Bool → Option Scanned
scan_way threshold nodes [] bits = Some (record { nodes = nodes; known = 0; rest = bits })
scan_way threshold nodes (n ∷ over) bits = option_and_then (scan_node threshold n) (scan_way threshold nodes over bits)

-- the nodes of a way's upper part were read, and no others
pub record PartRead (threshold : ℕ) (old : List Node) (way : List ℕ) (bits : List Bool) (new : List Node) : Type 0 where
  pub place : ℕ
  pub known : ℕ
  pub rest : List Bool
  pub read : scan_way threshold old (drop place way) bits ≡ Some (record { nodes = new; known = known; rest = rest })

-- the nodes of a way were read, and whether its leaf's value is below the threshold
pub record WayRead (threshold : ℕ) (old : List Node) (leaf : ℕ) (way : List ℕ) (bits : List Bool) (below : Bool) (new : List Node) (rest : List Bool) : Type 0 where
  pub known : ℕ
  pub read : scan_way threshold old way bits ≡ Some (record { nodes = new; known = known; rest = rest })
  pub answer : below ≡ ((node_at new leaf).settled && nat_lt known threshold)
