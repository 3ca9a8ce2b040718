use Rattle.std.proofs.Common.{rules, ◌≡◌, ◌+◌, ◌<◌, length, map}
use Rattle.std.specs.List.{concat}
use Rattle.jx_rounds.proofs.PartLemmas.{tiles_counted}
use Rattle.jx_rounds.proofs.buffer.count_bytes.Goals as goal

pub loop-tile-preserved : goal.loop-tile-preserved
loop-tile-preserved c =
    let there : c.loop-tile.tile-index < length c.args.tiles.now = search rules in
    let counted : c.in_ok-count.count ≡ c.loop-tile.count + length (concat (map concat c.tile-item.result)) = search rules in
    tiles_counted c.args.tiles.now c.loop-tile.tile-index c.tile-item.result c.args.before c.loop-tile.count c.in_ok-count.count there c.tile-item.is counted c.loop-tile.invariant
