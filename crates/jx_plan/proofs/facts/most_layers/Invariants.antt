use Rattle.std.proofs.Common.{◌≡◌, ◌-◌, max}
use Rattle.jx_codestream.specs.First.{tile_number}
use Rattle.jx_layers.specs.Rule.{greatest}
use Rattle.jx_plan.specs.Facts.{tile_layers}
use Rattle.jx_plan.proofs.facts.most_layers.Given as goal

abbrev pub invariant-loop-tile : goal.invariant-loop-tile
invariant-loop-tile l =
    max l.most (greatest (tile_layers l.stream l.tile (tile_number l.stream.siz - l.tile))) ≡ greatest (tile_layers l.stream 0 (tile_number l.stream.siz))
