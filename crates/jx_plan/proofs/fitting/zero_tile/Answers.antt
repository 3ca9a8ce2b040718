use Rattle.std.proofs.Common.{rules, ◌≡◌, ◌<◌, ◌≤◌, Some, length, true, arith}
use Rattle.jx_codestream.specs.Shapes.{no_tile}
use Rattle.jx_plan.specs.Fits.{tile_has_zero}
use Rattle.jx_plan.proofs.FitLemmas.{no_place, place_at}
use Rattle.jx_plan.proofs.fitting.zero_tile.Goals as goal

pub returns-then-tile_has_zero : goal.returns-then-tile_has_zero
returns-then-tile_has_zero c =
    let inside : c.loop-tile.tile < length c.args.tiles.now = search rules in
    let here : tile_has_zero (Some c.args.items.now) c.index-tiles-tile.result ≡ true = search rules in
    place_at (tile_has_zero (Some c.args.items.now)) c.args.tiles.now c.loop-tile.tile c.index-tiles-tile.result no_tile inside c.index-tiles-tile.is here c.loop-tile.invariant

pub returns : goal.returns
returns c =
    let all : length c.args.tiles.now ≤ c.loop-tile.tile = search rules in
    no_place (tile_has_zero (Some c.args.items.now)) c.args.tiles.now no_tile (λ k inside. c.loop-tile.invariant k (omega (arith, inside, all)))
