use Rattle.std.proofs.Common.{◌≡◌, ◌++◌, drop}
use Rattle.jx_tier2_writer.specs.BlockParts.{rows_of}
use Rattle.jx_tier2_writer.proofs.sending.flat_rows.Given as goal

abbrev pub invariant-loop-row : goal.invariant-loop-row
invariant-loop-row l = l.made ++ rows_of (drop l.row-index l.rows) ≡ rows_of l.rows
