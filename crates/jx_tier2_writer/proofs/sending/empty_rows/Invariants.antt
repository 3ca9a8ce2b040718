use Rattle.std.proofs.Common.{◌≡◌, ℕ, [], length}
use Rattle.jx_tier2_writer.specs.BlockParts.{row_at, rows_of}
use Rattle.jx_tier2_writer.proofs.sending.empty_rows.Given as goal

abbrev pub invariant-loop : goal.invariant-loop
invariant-loop l = (length l.rows.items ≡ l.counter) × ((n : ℕ) → row_at (rows_of l.rows.items) n ≡ [])
