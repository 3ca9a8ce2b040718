use Rattle.std.proofs.Common.{arith, string_bytes}
use Rattle.jx_show.specs.Facts.{tile_facts}
use Rattle.jx_show.proofs.TextLemmas.{next, none}
use Rattle.jx_show.proofs.TileLemmas.{first_tile}
use Rattle.jx_show.proofs.headers.push_tiles.Goals as goal

pub parts_of_tile-usual-requires-clause-tile : goal.parts_of_tile-usual-requires-clause-tile
parts_of_tile-usual-requires-clause-tile c = first_tile c.args.stream.now c.requires.range

pub loop-tile-init : goal.loop-tile-init
loop-tile-init c = none c.args.json (string_bytes c.args.text.now) (tile_facts c.args.stream.now) 0 0 (omega arith)

pub loop-tile-preserved : goal.loop-tile-preserved
loop-tile-preserved c =
    next c.args.json (string_bytes c.args.text.now) (string_bytes c.loop-tile.text) (string_bytes c.push_tile.new.text) (tile_facts c.args.stream.now) 0 c.loop-tile.tile
    (omega arith) c.loop-tile.invariant c.in_ok-push_tile.ensures
