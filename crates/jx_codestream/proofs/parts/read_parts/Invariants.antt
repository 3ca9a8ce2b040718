use Rattle.std.proofs.Common.{◌≡◌, ◌≤◌, ◌<◌, ℕ, length, ◌-◌, get_or}
use Rattle.std.specs.List.{All}
use Rattle.jx_codestream.specs.declared.parts.PlacedPart.{PlacedPart}
use Rattle.jx_codestream.specs.Parts.{longest_parts, parts_from, Tracks}
use Rattle.jx_codestream.proofs.parts.read_parts.Given as goal

abbrev pub invariant-parts : goal.invariant-parts
invariant-parts l = record {
  within : l.place ≤ length l.bytes;
  same : longest_parts l.packed l.comps (length l.fn.counts) l.bytes (length l.bytes) l.parts.items l.place ≡ parts_from l.packed l.comps (length l.fn.counts) l.bytes l.at;
  tracks : Tracks l.parts.items l.counts l.told;
  tiles : All (λ (part : PlacedPart). part.sot.tile < length l.fn.counts) l.parts.items;
  fresh : (slot : ℕ) → get_or l.seen slot 0 ≤ l.place;
}

abbrev pub decreases-parts : goal.decreases-parts
decreases-parts l = length l.bytes - l.place
