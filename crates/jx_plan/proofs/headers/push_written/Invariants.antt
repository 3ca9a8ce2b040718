use Rattle.std.proofs.Common.{◌≡◌, ◌++◌, drop}
use Rattle.jx_plan.specs.Headers.{all_written, with_layers}
use Rattle.jx_plan.proofs.headers.push_written.Given as goal

abbrev pub invariant-loop-segment : goal.invariant-loop-segment
invariant-loop-segment l = l.into.items ++ all_written (with_layers l.options l.layers) (drop l.segment-index l.segments) ≡ l.fn.into.items ++ all_written (with_layers l.options l.layers) l.segments
