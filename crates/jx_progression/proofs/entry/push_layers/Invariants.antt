use Rattle.std.proofs.Common.{◌≡◌, ◌≤◌, ◌++◌, max}
use Rattle.jx_base.specs.Joined.{joined}
use Rattle.jx_progression.specs.Steps.{one_layer_head}
use Rattle.jx_progression.proofs.entry.push_layers.Given as goal

abbrev pub invariant-loop-layer : goal.invariant-loop-layer
invariant-loop-layer l = record {
  items : l.list.items ≡ l.initial.list.items ++ joined (one_layer_head l.row) l.from l.layer;
  until : l.layer ≤ max l.from l.to;
}
