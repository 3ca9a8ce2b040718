use Rattle.std.proofs.Common.{◌≡◌, ◌≤◌, ◌+◌, count_by, drop, nat_le}
use Rattle.jx_layers.proofs.cutting.count_to.Given as goal

abbrev pub invariant-loop-cut : goal.invariant-loop-cut
invariant-loop-cut l = record {
  few : l.count ≤ l.cut-index;
  so_far : l.count + count_by (λ cut. nat_le cut l.pass) (drop l.cut-index l.cuts) ≡ count_by (λ cut. nat_le cut l.pass) l.cuts;
}
