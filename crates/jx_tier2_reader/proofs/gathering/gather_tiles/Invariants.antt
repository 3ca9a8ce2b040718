use Rattle.std.proofs.Common.{ℕ, ◌<◌}
use Rattle.std.specs.List.{All}
use Rattle.jx_base.specs.Sound.{IsSound}
use Rattle.jx_tile.specs.Covered.{IsWhole}
use Rattle.jx_tier2_reader.specs.Joined.{IsGatheredTo}
use Rattle.jx_tier2_reader.proofs.gathering.gather_tiles.Given as goal

abbrev pub invariant-loop-tile : goal.invariant-loop-tile
invariant-loop-tile l = IsGatheredTo l.bytes l.stream l.tile l.blocks.items × All IsSound l.blocks.items × ((t : ℕ) → t < l.tile → IsWhole l.stream t)
