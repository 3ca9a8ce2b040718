use Rattle.std.proofs.Common.{◌≡◌, ◌≤◌, ◌++◌, ◌+◌, ◌-◌, take, drop, max}
use Rattle.jx_base.specs.Joined.{joined}
use Rattle.jx_progression.specs.Steps.{one_layer}
use Rattle.jx_progression.proofs.spread.write_precinct.Given as goal

abbrev pub invariant-loop-layer : goal.invariant-loop-layer
invariant-loop-layer l = record {
  items : l.list ≡ take l.at l.initial.list ++ joined (one_layer l.head) l.head.layer l.layer ++ drop (l.at + (l.layer - l.head.layer)) l.initial.list;
  from : l.head.layer ≤ l.layer;
  until : l.layer ≤ max l.head.layer l.end;
}
