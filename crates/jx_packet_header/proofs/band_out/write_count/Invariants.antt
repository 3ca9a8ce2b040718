use Rattle.std.proofs.Common.{◌≡◌, ◌-◌, ◌++◌}
use Rattle.jx_tagtree.specs.Questions.{all_bits, after_all}
use Rattle.jx_packet_header.specs.Packet.{asked}
use Rattle.jx_packet_header.specs.Written.{least_of}
use Rattle.jx_packet_header.proofs.band_out.write_count.Given as goal

abbrev pub invariant-loop-known : goal.invariant-loop-known
invariant-loop-known l = record {
  bits : l.bits ++ all_bits (least_of l.initial.tree) l.tree.tree (asked l.leaf l.known (l.count - l.known)) ≡ l.initial.bits ++ all_bits (least_of l.initial.tree) l.initial.tree.tree (asked l.leaf 0 l.count);
  after : after_all (least_of l.initial.tree) l.tree.tree (asked l.leaf l.known (l.count - l.known)) ≡ after_all (least_of l.initial.tree) l.initial.tree.tree (asked l.leaf 0 l.count);
  leaves : l.tree.leaves ≡ l.initial.tree.leaves;
  wide : l.tree.tree.wide ≡ l.initial.tree.tree.wide;
  high : l.tree.tree.high ≡ l.initial.tree.tree.high;
}
