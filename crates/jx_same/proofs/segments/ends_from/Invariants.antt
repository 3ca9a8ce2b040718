use Rattle.std.proofs.Common.{◌≡◌, ◌≤◌}
use Rattle.jx_codeblock.specs.Segments.{ends_below}
use Rattle.jx_same.proofs.segments.ends_from.Given as goal

abbrev pub invariant-loop-pass : goal.invariant-loop-pass
invariant-loop-pass l = record {
  value : l.count ≡ ends_below l.style.bits l.pass;
  few : l.count ≤ l.pass;
}
