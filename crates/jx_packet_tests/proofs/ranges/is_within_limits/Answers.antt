use Rattle.std.proofs.Common.{◌≡◌, ◌+◌, ◌∙◌, ap, arith, get_or, refl, sym, take, List}
use Rattle.std.proofs.lemmas.Bool.{true≢false}
use Rattle.std.proofs.lemmas.List.{take_all}
use Rattle.jx_geom.specs.declared.shape.CompShape.{CompShape}
use Rattle.jx_geom.specs.Counts.{component_blocks, component_precincts, tile_blocks, tile_precincts}
use Rattle.jx_geom.specs.Geometry.{no_shape}
use Rattle.jx_geom.specs.Rects.{tile_rect}
use Rattle.jx_geom.proofs.TableLemmas.{blocks_more, blocks_room, precincts_more, precincts_room}
use Rattle.jx_packet_tests.proofs.ranges.is_within_limits.Goals as goal
use Rattle.jx_packet_tests.proofs.ranges.is_within_limits.Goals.{then-blocks-via-then-blocks, then-blocks-via-else-blocks+then-precincts}

pub loop-comp-preserved : goal.loop-comp-preserved
loop-comp-preserved c =
    let tile = tile_rect c.args.canvas.now c.args.tile in
    let shapes = c.args.comps.now in
    let i = c.loop-comp.comp-index in
    let shape = get_or shapes i no_shape in
    let own = c.count_in-own_blocks.ensures in
    record {
      blocks = ap (λ n. n + c.count_in-own_blocks.result.0) c.loop-comp.invariant.blocks
          ∙ (ap (λ n. tile_blocks tile (take i shapes) + n) (own.blocks ∙ ap (λ r. component_blocks r shape) c.tile_of-places.ensures)
          ∙ sym (blocks_more tile shapes i c.loop-comp-test.true));
      precincts = ap (λ n. n + c.count_in-own_blocks.result.1) c.loop-comp.invariant.precincts
          ∙ (ap (λ n. tile_precincts tile (take i shapes) + n) (own.precincts ∙ ap (λ r. component_precincts r shape) c.tile_of-places.ensures)
          ∙ sym (precincts_more tile shapes i c.loop-comp-test.true));
      few_blocks = c.if-blocks.false;
      few_precincts = c.if-precincts.false;
    }

pub returns-then-blocks : goal.returns-then-blocks
returns-then-blocks c =
    let tile = tile_rect c.args.canvas.now c.args.tile in
    let shapes = c.args.comps.now in
    let i = c.loop-comp.comp-index in
    let shape = get_or shapes i no_shape in
    let own = c.count_in-own_blocks.ensures in
    let blocks = own.blocks ∙ ap (λ r. component_blocks r shape) c.tile_of-places.ensures in
    let precincts = own.precincts ∙ ap (λ r. component_precincts r shape) c.tile_of-places.ensures in
    let more_blocks = blocks_room tile shapes i c.loop-comp-test.true in
    let more_precincts = precincts_room tile shapes i c.loop-comp-test.true in (
      λ no. absurd (true≢false (sym no)),
      λ within. elim c.then-blocks.branch [
        | then-blocks-via-then-blocks w ↦ absurd (omega (arith, w.if-blocks, blocks, more_blocks, within.blocks, c.loop-comp.invariant.blocks))
        | then-blocks-via-else-blocks+then-precincts w ↦ absurd (omega (arith, w.if-precincts, precincts, more_precincts, within.precincts, c.loop-comp.invariant.precincts))
      ],
    )

pub returns : goal.returns
returns c =
    let shapes = c.args.comps.now in
    let tile = tile_rect c.args.canvas.now c.args.tile in
    let all : take c.loop-comp.comp-index shapes ≡ shapes = take_all c.loop-comp.comp-index shapes c.loop-comp-test.false in
    let blocks = c.loop-comp.invariant.blocks ∙ ap (λ (list : List CompShape). tile_blocks tile list) all in
    let precincts = c.loop-comp.invariant.precincts ∙ ap (λ (list : List CompShape). tile_precincts tile list) all in (
      λ yes. record {
        blocks = omega (arith, blocks, c.loop-comp.invariant.few_blocks);
        precincts = omega (arith, precincts, c.loop-comp.invariant.few_precincts);
      },
      λ within. refl,
    )
