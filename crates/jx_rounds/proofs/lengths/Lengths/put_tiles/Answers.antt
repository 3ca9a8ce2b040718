use Rattle.std.proofs.Common.{rules, arith, ◌<◌, ◌≤◌, ◌∙◌, length, refl}
use Rattle.jx_rounds.proofs.SentLemmas.{behind_tiles, tiles_behind}
use Rattle.jx_rounds.proofs.lengths.Lengths.put_tiles.Goals as goal

pub loop-packed-init : goal.loop-packed-init
loop-packed-init c = record { at = omega arith; put = refl }

pub loop-packed-preserved : goal.loop-packed-preserved
loop-packed-preserved c =
    let there : c.loop-packed.packed-index < length c.args.tiles.now = search rules in
    record {
      at = omega (arith, c.loop-packed.invariant.at);
      put = tiles_behind c.loop-packed.tile c.args.tiles.now c.loop-packed.packed-index c.packed-item.result c.loop-packed.self _ there c.packed-item.is c.in_ok-put_tile.ensures ∙ c.loop-packed.invariant.put;
    }

pub returns : goal.returns
returns c =
    let end : length c.args.tiles.now ≤ c.loop-packed.packed-index = search rules in
    behind_tiles c.loop-packed.tile c.args.tiles.now c.loop-packed.packed-index c.loop-packed.self _ end c.loop-packed.invariant.put
