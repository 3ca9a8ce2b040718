use Rattle.jx_show.proofs.TileLemmas.{first_tile}
use Rattle.jx_show.proofs.counts.push_totals.Goals as goal

pub parts_of_tile-requires-clause-tile : goal.parts_of_tile-requires-clause-tile
parts_of_tile-requires-clause-tile c = first_tile c.args.stream.now c.requires.range
