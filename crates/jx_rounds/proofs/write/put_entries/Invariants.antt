use Rattle.std.proofs.Common.{◌≡◌, ◌≤◌, ◌+◌, ◌++◌, drop, length, map, vec_capacity, vec_len}
use Rattle.jx_rounds.specs.MadeRounds.{entry_of}
use Rattle.jx_rounds.proofs.write.put_entries.Given as goal

abbrev pub invariant-loop-entry : goal.invariant-loop-entry
invariant-loop-entry l = record {
  put : l.tape.items ++ map entry_of (drop l.entry-index l.entries) ≡ l.initial.tape.items ++ map entry_of l.entries;
  room : vec_len l.tape + length (drop l.entry-index l.entries) ≤ vec_capacity l.tape;
}
