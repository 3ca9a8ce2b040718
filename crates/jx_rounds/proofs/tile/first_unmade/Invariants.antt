use Rattle.std.proofs.Common.{take}
use Rattle.jx_tier2_writer.specs.Tile.{AreMade}
use Rattle.jx_rounds.proofs.tile.first_unmade.Given as goal

abbrev pub invariant-loop-entry : goal.invariant-loop-entry
invariant-loop-entry l = AreMade (take l.entry-index l.entries)
