use Rattle.std.proofs.Common.{◌≡◌}
use Rattle.jx_packet_tests.proofs.tagtree_tests.read_back.Given as goal

-- the tree keeps its size
abbrev pub invariant-loop-leaf : goal.invariant-loop-leaf
invariant-loop-leaf g l = (l.tree.wide ≡ l.wide) × (l.tree.high ≡ l.high)
