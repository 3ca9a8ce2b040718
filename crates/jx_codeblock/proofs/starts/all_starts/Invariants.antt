use Rattle.std.proofs.Common.{◌≡◌, ◌<◌, ◌+◌, ℕ, map, drop, take, length, get_or}
use Rattle.jx_base.specs.Pieces.{value_of, bytes_in}
use Rattle.jx_codeblock.proofs.starts.all_starts.Given as goal

abbrev pub invariant-loop-piece : goal.invariant-loop-piece
invariant-loop-piece l = record {
  bytes : l.start + bytes_in (map value_of (drop l.piece-index l.pieces)) ≡ bytes_in (map value_of l.pieces);
  long : length l.starts.items ≡ l.piece-index;
  each : (i : ℕ) → i < length l.starts.items → get_or l.starts.items i 0 ≡ bytes_in (take i (map value_of l.pieces));
}
