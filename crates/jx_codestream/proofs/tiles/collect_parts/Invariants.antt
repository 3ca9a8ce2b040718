use Rattle.std.proofs.Common.{◌≡◌, ◌<◌, ℕ, length, get_or}
use Rattle.jx_codestream.specs.declared.tiles.Draft.{Draft}
use Rattle.jx_codestream.specs.Parts.{parts_of}
use Rattle.jx_codestream.specs.Tiles.{Collects}
use Rattle.jx_codestream.proofs.tiles.collect_parts.Given as goal

abbrev pub invariant-loop-part : goal.invariant-loop-part
invariant-loop-part l = record {
  count : length l.drafts.items ≡ l.count;
  each : (tile : ℕ) (other : Draft) → tile < l.count → Collects (parts_of tile l.yielded) (get_or l.drafts.items tile other);
}
