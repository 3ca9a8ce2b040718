use Rattle.std.proofs.Common.{◌≡◌, ◌<◌, ℕ, List, length, get_or}
use Rattle.jx_marker.specs.declared.Segment.{Segment}
use Rattle.jx_codestream.specs.declared.tiles.Draft.{Draft}
use Rattle.jx_codestream.specs.declared.parts.PlacedPart.{PlacedPart}
use Rattle.jx_codestream.specs.declared.Tile.{Tile}
use Rattle.jx_codestream.specs.Tiles.{Collects, entry_in, in_slot, entries_joined, tile_from}
use Rattle.jx_codestream.proofs.tiles.finish_all.Given as goal

abbrev pub invariant-loop-draft : goal.invariant-loop-draft
invariant-loop-draft l = record {
  count : length l.tiles.items ≡ length l.yielded;
  each : (segments : List Segment) → l.main ≡ entries_joined segments → l.default ≡ entry_in (in_slot 1 segments)
      → (tile : ℕ) (other : Draft) (another : Tile) (own : List PlacedPart) → tile < length l.yielded
      → Collects own (get_or l.yielded tile other) → get_or l.tiles.items tile another ≡ tile_from segments own;
}
