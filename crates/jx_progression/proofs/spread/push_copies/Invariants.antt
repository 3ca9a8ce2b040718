use Rattle.std.proofs.Common.{◌≡◌, ◌+◌, length, take}
use Rattle.jx_progression.proofs.spread.push_copies.Given as goal

abbrev pub invariant-loop : goal.invariant-loop
invariant-loop l = record {
  front : take (length l.initial.list.items) l.list.items ≡ l.initial.list.items;
  size : length l.list.items ≡ length l.initial.list.items + l.counter;
}
