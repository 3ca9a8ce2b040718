use Rattle.std.proofs.Common.{◌≡◌, ◌<◌, ◌||◌, ℕ, nat_lt, false, length, get_or, drop}
use Rattle.jx_packet_header.specs.Written.{parts_in, passes_of}
use Rattle.jx_packet_header.proofs.precinct_out.note_layers.Given as goal

-- what is noted, or comes
abbrev pub invariant-loop-part : goal.invariant-loop-part
invariant-loop-part l = record {
  long : length l.some.items ≡ length l.initial.some.items;
  each : (layer : ℕ) → layer < length l.initial.some.items → (get_or l.some.items layer false || nat_lt 0 (passes_of (parts_in layer (drop l.part-index l.parts))))
      ≡ (get_or l.initial.some.items layer false || nat_lt 0 (passes_of (parts_in layer l.parts)));
}
