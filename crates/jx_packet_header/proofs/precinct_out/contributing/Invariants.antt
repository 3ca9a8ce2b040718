use Rattle.std.proofs.Common.{◌≡◌, ◌<◌, ◌||◌, ℕ, false, length, get_or, drop, map}
use Rattle.jx_packet_header.specs.Written.{some_in}
use Rattle.jx_packet_header.specs.Leafs.{leaf_of}
use Rattle.jx_packet_header.proofs.precinct_out.contributing.Given as goal

-- what is noted, or comes
abbrev pub invariant-loop-leaf : goal.invariant-loop-leaf
invariant-loop-leaf l = record {
  long : length l.some.items ≡ l.layers;
  each : (layer : ℕ) → layer < l.layers → (get_or l.some.items layer false || some_in layer (map leaf_of (drop l.leaf-index l.leaves))) ≡ some_in layer (map leaf_of l.leaves);
}
