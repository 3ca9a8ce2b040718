use Rattle.std.proofs.Common.{◌≡◌, ◌≤◌, ◌++◌, length, drop, get_or}
use Rattle.jx_tagtree.specs.TagTree.{walk}
use Rattle.jx_tagtree.proofs.writing.write_way.Given as goal

-- the nodes that stand over this place are told
abbrev pub invariant-loop-place : goal.invariant-loop-place
invariant-loop-place l = record {
  within : l.place ≤ length l.way;
  long : length l.nodes.items ≡ length l.fn.nodes.items;
  nodes : l.nodes.items ≡ (walk (λ n. get_or l.values n 0) l.threshold l.fn.nodes.items (drop l.place l.way)).nodes;
  known : l.above ≡ (walk (λ n. get_or l.values n 0) l.threshold l.fn.nodes.items (drop l.place l.way)).known;
  bits : l.bits ≡ l.fn.bits ++ (walk (λ n. get_or l.values n 0) l.threshold l.fn.nodes.items (drop l.place l.way)).bits;
}

abbrev pub decreases-loop-place : goal.decreases-loop-place
decreases-loop-place l = l.place
