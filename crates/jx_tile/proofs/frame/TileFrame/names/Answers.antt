use Rattle.std.proofs.Common.{◌∙◌, ap, sym, subst, List, Err, All}
use Rattle.jx_base.specs.OrderNumbers.{IsOrderNumber}
use Rattle.jx_marker.specs.declared.Progression.{Progression}
use Rattle.jx_progression.specs.Packets.{IsPacketName}
use Rattle.jx_codestream.specs.declared.Tile.{Tile}
use Rattle.jx_codestream.specs.Shapes.{geometry, layers_in, layers_of}
use Rattle.jx_tile.proofs.CoveredLemmas.{every_of, few_of, lacks_of, order_of, whole_of}
use Rattle.jx_tile.proofs.FewPackets.{All-contained}
use Rattle.jx_tile.proofs.FrameLemmas.{orders_of, packets_of}
use Rattle.jx_tile.proofs.frame.TileFrame.names.Goals as goal

pub packets-requires : goal.packets-requires
packets-requires c =
    let P : List Progression → Type 0 = λ x. All (λ (e : Progression). IsOrderNumber e.order) x in
    subst P (sym (c.as_slice.ensures ∙ ap (λ (x : Tile). x.progressions) c.tile-tile.ensures))
    (orders_of c.args.self.now c.parts.result.0.now c.parts.result.1.now c.parts.result.2.now c.parts.ensures.stream c.parts.ensures.geometry c.parts.ensures.tile)

pub returns-in-Err-Uncovered-clause-uncovered : goal.returns-in-Err-Uncovered-clause-uncovered
returns-in-Err-Uncovered-clause-uncovered c =
    let f = c.args.self.now in
    let layers = c.layers.ensures.value ∙ ap layers_in c.parts.ensures.view in
    rw c.uncovered.ensures (lacks_of f.stream f.number c.parts.result.2.now c.layers.result c.as_slice.result.now c.tile-tile.result.now c.parts.ensures.geometry layers c.tile-tile.ensures c.as_slice.ensures
    (c.in-Err-Uncovered.ensures.uncovered (ap Err c.in-Err-Uncovered.field-0-is)))

pub returns-in-Ok-clause-order : goal.returns-in-Ok-clause-order
returns-in-Ok-clause-order c =
    let f = c.args.self.now in
    let layers = c.layers.ensures.value ∙ ap layers_in c.parts.ensures.view in
    order_of f.stream f.number c.parts.result.2.now c.layers.result c.as_slice.result.now c.tile-tile.result.now c.in-Ok.list.items c.parts.ensures.geometry layers c.tile-tile.ensures c.as_slice.ensures c.in-Ok.ensures.order

pub returns-in-Ok-clause-whole : goal.returns-in-Ok-clause-whole
returns-in-Ok-clause-whole c =
    let f = c.args.self.now in
    let layers = c.layers.ensures.value ∙ ap layers_in c.parts.ensures.view in
    whole_of f.stream f.number c.parts.result.2.now c.layers.result c.as_slice.result.now c.tile-tile.result.now c.parts.ensures.geometry layers c.tile-tile.ensures c.as_slice.ensures c.in-Ok.ensures.whole

pub returns-in-Ok-clause-every : goal.returns-in-Ok-clause-every
returns-in-Ok-clause-every c =
    let f = c.args.self.now in
    let layers = c.layers.ensures.value ∙ ap layers_in c.parts.ensures.view in
    every_of f.stream f.number c.parts.result.2.now c.layers.result c.in-Ok.list.items c.parts.ensures.geometry layers c.in-Ok.ensures.every

pub returns-in-Ok-clause-once : goal.returns-in-Ok-clause-once
returns-in-Ok-clause-once c = c.in-Ok.ensures.once

pub returns-in-Ok-clause-each : goal.returns-in-Ok-clause-each
returns-in-Ok-clause-each c =
    let f = c.args.self.now in
    let layers = c.layers.ensures.value ∙ ap layers_in c.parts.ensures.view in
    let every = every_of f.stream f.number c.parts.result.2.now c.layers.result c.in-Ok.list.items c.parts.ensures.geometry layers c.in-Ok.ensures.every in
    All-contained (IsPacketName (geometry f.stream f.number) (layers_of f.stream f.number)) c.in-Ok.list.items (λ x has. (every x).0 has)

pub returns-in-Ok-clause-few : goal.returns-in-Ok-clause-few
returns-in-Ok-clause-few c =
    let f = c.args.self.now in
    let layers = c.layers.ensures.value ∙ ap layers_in c.parts.ensures.view in
    let every = every_of f.stream f.number c.parts.result.2.now c.layers.result c.in-Ok.list.items c.parts.ensures.geometry layers c.in-Ok.ensures.every in
    few_of f.stream f.number c.in-Ok.list.items
    (packets_of f c.parts.result.0.now c.parts.result.1.now c.parts.result.2.now c.parts.ensures.stream c.parts.ensures.geometry c.parts.ensures.tile) every c.in-Ok.ensures.once
