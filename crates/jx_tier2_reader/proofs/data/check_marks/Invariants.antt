use Rattle.std.proofs.Common.{◌≡◌, ◌+◌, ◌≤◌, length, drop}
use Rattle.jx_tier2_reader.specs.Data.{parts_length, marks_fault}
use Rattle.jx_tier2_reader.proofs.data.check_marks.Given as goal

abbrev pub invariant-loop-part : goal.invariant-loop-part
invariant-loop-part l = record {
  same : marks_fault l.place l.rest (drop l.part-index l.parts) ≡ marks_fault l.fn.at l.bytes l.parts;
  room : parts_length (drop l.part-index l.parts) ≤ length l.rest;
  whole : l.place + length l.rest ≡ l.fn.at + length l.bytes;
}
