use Rattle.std.proofs.Common.{◌<◌, List, map, sym, subst}
use Rattle.jx_base.specs.declared.pieces.Block.{Block}
use Rattle.jx_codestream.specs.declared.Stream.{Stream}
use Rattle.jx_codestream.specs.First.{tile_number}
use Rattle.jx_codestream.specs.Shapes.{geometry}
use Rattle.jx_tier2_writer.specs.Assembled.{AreOwn}
use Rattle.jx_tier2_writer.specs.Own.{AreOwnBlocks}
use Rattle.jx_tier2_writer.specs.Tile.{block_written, made_in}
use Rattle.jx_tier2_writer.proofs.PlanLemmas.{ParametersStay, plan_inside, plan_own, plan_stands}
use Rattle.jx_tier2_writer.proofs.planned.tile_headers.Goals as goal

pub returns-clause-range : goal.returns-clause-range
returns-clause-range c = c.ready_is_in_range.ensures.stream c.args.plan.now.wanted.marks c.ready_headers.result.now c.ready_headers.ensures.ready

pub returns-clause-tile : goal.returns-clause-tile
returns-clause-tile c =
    let stay : ParametersStay = record { shapes = c.parameters_stay.ensures.shapes; layers = c.parameters_stay.ensures.layers } in
    let P : Stream → Type 0 = λ s. c.args.tile < tile_number s.siz in
    subst P (sym c.ready_headers.ensures.value) (plan_inside c.args.plan.now c.ready_headers.ensures.plan stay c.args.tile c.requires.tile)

pub returns-clause-whole : goal.returns-clause-whole
returns-clause-whole c =
    let stay : ParametersStay = record { shapes = c.parameters_stay.ensures.shapes; layers = c.parameters_stay.ensures.layers } in
    let P : Stream → Type 0 = λ s. c.args.tile < tile_number s.siz in
    c.ready_is_in_range.ensures.whole c.args.plan.now.wanted.marks c.ready_headers.result.now c.ready_headers.ensures.ready c.args.tile
    (subst P (sym c.ready_headers.ensures.value) (plan_inside c.args.plan.now c.ready_headers.ensures.plan stay c.args.tile c.requires.tile))

pub returns-clause-own : goal.returns-clause-own
returns-clause-own c =
    let stay : ParametersStay = record { shapes = c.parameters_stay.ensures.shapes; layers = c.parameters_stay.ensures.layers } in
    let P : Stream → Type 0 = λ s. AreOwnBlocks s (geometry s c.args.tile) (map block_written (made_in c.args.values.now)) in
    subst P (sym c.ready_headers.ensures.value) (plan_own c.args.plan.now c.ready_headers.ensures.plan stay c.args.tile (made_in c.args.values.now) c.requires.tile c.requires.values)

pub returns-clause-stand : goal.returns-clause-stand
returns-clause-stand c blocks stand =
    let stay : ParametersStay = record { shapes = c.parameters_stay.ensures.shapes; layers = c.parameters_stay.ensures.layers } in
    let own : List Block = map block_written (made_in c.args.values.now) in
    let P : Stream → Type 0 = λ s. AreOwn s c.args.tile blocks own in
    subst P (sym c.ready_headers.ensures.value) (plan_stands c.args.plan.now c.ready_headers.ensures.plan stay blocks c.args.tile (made_in c.args.values.now) c.requires.tile c.requires.values stand)
