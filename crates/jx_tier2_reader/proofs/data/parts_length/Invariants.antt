use Rattle.std.proofs.Common.{◌≡◌, ◌+◌, ◌≤◌, drop}
use Rattle.jx_tier2_reader.specs.Data.{parts_length}
use Rattle.jx_tier2_reader.proofs.data.parts_length.Given as goal

abbrev pub invariant-loop-part : goal.invariant-loop-part
invariant-loop-part l = record {
  sum : l.length + parts_length (drop l.part-index l.parts) ≡ parts_length l.parts;
  within : l.length ≤ l.room;
}
