use Rattle.std.proofs.Common.{◌≡◌, ◌≤◌, ◌+◌, ◌*◌, ◌^◌, drop}
use Rattle.jx_tier2_writer.specs.Packed.{total}
use Rattle.jx_tier2_writer.proofs.tile_part.sum_of.Given as goal

abbrev pub invariant-loop-length : goal.invariant-loop-length
invariant-loop-length l = (l.sum ≤ l.length-index * 2 ^ 32) × (l.sum + total (drop l.length-index l.lengths) ≡ total l.lengths)
