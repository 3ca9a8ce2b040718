use Rattle.std.proofs.Common.{◌≡◌, ◌-◌, ◌≤◌, ◌++◌, replicate, false, max}
use Rattle.jx_tagtree.proofs.writing.write_zeros.Given as goal

-- the zeros so far
abbrev pub invariant-loop : goal.invariant-loop
invariant-loop l = record {
  within : l.counter ≤ max l.start l.end;
  zeros : l.bits ≡ l.fn.bits ++ replicate (l.counter - l.start) false;
}
