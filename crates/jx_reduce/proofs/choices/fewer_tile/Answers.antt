use Rattle.std.proofs.Common.{rules, ◌≡◌, ◌<◌, ◌≤◌, length, true, arith}
use Rattle.jx_codestream.specs.Shapes.{no_tile}
use Rattle.jx_reduce.specs.Unreducible.{tile_has_fewer}
use Rattle.jx_reduce.proofs.ListLemmas.{no_place, place_at}
use Rattle.jx_reduce.proofs.choices.fewer_tile.Goals as goal

pub returns-then-tile_has_fewer : goal.returns-then-tile_has_fewer
returns-then-tile_has_fewer c =
    let inside : c.loop-tile.tile < length c.args.tiles.now = search rules in
    let here : tile_has_fewer c.args.d c.index-tiles-tile.result ≡ true = search rules in
    place_at (tile_has_fewer c.args.d) c.args.tiles.now c.loop-tile.tile c.index-tiles-tile.result no_tile inside c.index-tiles-tile.is here c.loop-tile.invariant

pub returns : goal.returns
returns c =
    let all : length c.args.tiles.now ≤ c.loop-tile.tile = search rules in
    no_place (tile_has_fewer c.args.d) c.args.tiles.now no_tile (λ k inside. c.loop-tile.invariant k (omega (arith, inside, all)))
