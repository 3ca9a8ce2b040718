use Rattle.std.proofs.Common.{◌≡◌, ◌++◌, map, drop}
use Rattle.jx_tier2_writer.specs.Tile.{made_in}
use Rattle.jx_tier2_writer.proofs.EntryLemmas.{lent}
use Rattle.jx_tier2_writer.proofs.entries.blocks_of.Given as goal

abbrev pub invariant-loop-entry : goal.invariant-loop-entry
invariant-loop-entry l = map lent l.list.items ++ made_in (drop l.entry-index l.entries) ≡ made_in l.entries
