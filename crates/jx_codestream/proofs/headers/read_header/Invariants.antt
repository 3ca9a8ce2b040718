use Rattle.std.proofs.Common.{◌≡◌, ◌≤◌, ◌+◌, length, ◌-◌}
use Rattle.jx_codestream.specs.Headers.{longest, header_at, MarksSlots}
use Rattle.jx_codestream.specs.PackedHeaders.{PackedLieIn, packed_from}
use Rattle.jx_codestream.specs.Spells.{all_bytes}
use Rattle.jx_codestream.proofs.headers.read_header.Given as goal

abbrev pub invariant-segments : goal.invariant-segments
invariant-segments l = record {
  from : l.at ≤ l.place;
  within : l.place ≤ length l.bytes;
  same : longest l.kind l.comps l.bytes (length l.bytes) l.segments.items l.place ≡ header_at l.kind l.comps l.bytes l.at;
  marks : MarksSlots l.at l.segments.items l.seen;
  size : l.place ≡ l.at + length (all_bytes l.comps l.segments.items);
  packed : l.packed.items ≡ packed_from l.comps l.at l.segments.items;
  lie : PackedLieIn l.bytes l.packed.items;
}

abbrev pub decreases-segments : goal.decreases-segments
decreases-segments l = length l.bytes - l.place
