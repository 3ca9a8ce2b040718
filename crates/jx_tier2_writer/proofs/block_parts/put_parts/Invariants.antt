use Rattle.std.proofs.Common.{◌≡◌, ℕ, ◌++◌, drop, length}
use Rattle.jx_tier2_writer.specs.BlockParts.{row_at, rows_of, block_parts_in}
use Rattle.jx_tier2_writer.proofs.block_parts.put_parts.Given as goal

abbrev pub invariant-loop-part : goal.invariant-loop-part
invariant-loop-part l =
    (length l.rows.items ≡ length l.initial.rows.items)
    × ((n : ℕ) → row_at (rows_of l.rows.items) n ++ block_parts_in n l.block (drop l.part-index l.parts) ≡ row_at (rows_of l.initial.rows.items) n ++ block_parts_in n l.block l.parts)
