use Rattle.std.proofs.Common.{◌≡◌, ◌<◌, ℕ, length, [], get_or}
use Rattle.jx_codestream.specs.declared.tiles.Draft.{Draft}
use Rattle.jx_codestream.specs.Tiles.{Collects}
use Rattle.jx_codestream.proofs.tiles.empty_drafts.Given as goal

abbrev pub invariant-loop : goal.invariant-loop
invariant-loop l = record {
  count : length l.drafts.items ≡ l.counter;
  each : (tile : ℕ) (other : Draft) → tile < length l.drafts.items → Collects [] (get_or l.drafts.items tile other);
}
