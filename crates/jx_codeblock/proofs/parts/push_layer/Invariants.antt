use Rattle.std.proofs.Common.{◌≡◌, ◌+◌, ◌++◌}
use Rattle.jx_packet_header.specs.Parts.{cut}
use Rattle.jx_codeblock.specs.Recoding.{layer_parts}
use Rattle.jx_codeblock.specs.Tables.{at_place}
use Rattle.jx_codeblock.proofs.parts.push_layer.Given as goal

abbrev pub invariant-loop-left : goal.invariant-loop-left
invariant-loop-left l = record {
  listed : l.parts.items ++ layer_parts (at_place l.table) l.layer l.at (cut l.style.bits l.at l.left)
      ≡ l.initial.parts.items ++ layer_parts (at_place l.table) l.layer l.first (cut l.style.bits l.first l.count);
  all : l.at + l.left ≡ l.first + l.count;
}

abbrev pub decreases-loop-left : goal.decreases-loop-left
decreases-loop-left l = l.left
