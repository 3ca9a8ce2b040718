use Rattle.std.proofs.Common.{◌≡◌, ℕ, map, length}
use Rattle.jx_base.specs.Joined.{joined}
use Rattle.jx_tier2_writer.specs.Own.{leaf_bytes}
use Rattle.jx_tier2_writer.specs.BlockParts.{AreBlockParts, row_at, row_bytes, rows_of}
use Rattle.jx_tier2_writer.proofs.sending.parts_of.Given as goal

abbrev pub invariant-loop-leaf : goal.invariant-loop-leaf
invariant-loop-leaf g l =
    (length l.rows.items ≡ l.layers)
    × ((n : ℕ) → row_bytes (map g.B.Coded.bytes l.values) (row_at (rows_of l.rows.items) n) ≡ joined (leaf_bytes l.geom (map g.B.Coded.block l.values) l.comp l.res l.precinct n) 0 l.leaf)
    × ((n : ℕ) → AreBlockParts (map g.B.Coded.bytes l.values) (row_at (rows_of l.rows.items) n))
