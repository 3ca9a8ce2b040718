use Rattle.std.proofs.Common.{◌≡◌, ◌<◌, ◌≤◌, length, drop, get_or, Some, true}
use Rattle.jx_tagtree.specs.Header.{Took, to_come}
use Rattle.jx_tagtree.specs.TagTree.{node_at}
use Rattle.jx_tagtree.specs.Scan.{scan_way}
use Rattle.jx_tagtree.proofs.reading.read_way.Given as goal

-- the nodes that stand over this place are read
abbrev pub invariant-loop-place : goal.invariant-loop-place
invariant-loop-place l = record {
  within : l.place ≤ length l.way;
  long : length l.nodes.items ≡ length l.fn.nodes.items;
  took : Took l.fn.bits l.bits;
  read : scan_way l.threshold l.fn.nodes.items (drop l.place l.way) (to_come l.fn.bits) ≡ Some (record { nodes = l.nodes.items; known = l.above; rest = to_come l.bits });
  settled : l.place < length l.way → (node_at l.nodes.items (get_or l.way l.place 0)).settled ≡ true;
}

abbrev pub decreases-loop-place : goal.decreases-loop-place
decreases-loop-place l = l.place
