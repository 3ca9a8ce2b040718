use Rattle.std.proofs.Common.{◌≡◌, ◌∙◌, ◌+◌, ◌-◌, ◌++◌, List, ap, arith, get_or, length, refl, take}
use Rattle.std.proofs.lemmas.List.{take_all}
use Rattle.jx_base.proofs.Joined.{joined_next, joined_none}
use Rattle.jx_geom.specs.declared.table.Resolution.{Resolution}
use Rattle.jx_geom.specs.Counts.{tile_blocks, tile_precincts}
use Rattle.jx_geom.specs.Geometry.{LacksPlace, no_shape}
use Rattle.jx_geom.specs.Resolutions.{all_resolutions, component_resolutions}
use Rattle.jx_geom.proofs.EmptyLemmas.{no_blocks, no_precincts}
use Rattle.jx_geom.proofs.TableLemmas.{blocks_more, none_behind, precincts_more}
use Rattle.jx_geom.proofs.empty.has_no_place.Goals as goal

pub loop-comp-init : goal.loop-comp-init
loop-comp-init c = record {
  none = λ lt. absurd (omega (arith, lt));
  blocks = refl;
  precincts = refl;
  list = joined_none (component_resolutions c.args.tile c.args.comps.now) 0 0 (omega arith);
}

pub loop-comp-preserved : goal.loop-comp-preserved
loop-comp-preserved c =
    let tile = c.args.tile in
    let shapes = c.args.comps.now in
    let i = c.loop-comp.comp in
    let shape = get_or shapes i no_shape in
    let lacks : LacksPlace tile shapes i = c.is_empty_after-none.ensures.0 c.if-not-none.false in
    record {
      none = λ lt. rw (let e : (i + 1) - 1 ≡ i = omega arith in e) c.is_empty_after-none.ensures;
      blocks = omega (arith, blocks_more tile shapes i c.loop-comp-test.true, no_blocks tile shape lacks, c.loop-comp.invariant.blocks);
      precincts = omega (arith, precincts_more tile shapes i c.loop-comp-test.true, no_precincts tile shape lacks, c.loop-comp.invariant.precincts);
      list = joined_next (component_resolutions tile shapes) 0 i (omega arith)
          ∙ (ap (λ (xs : List Resolution). xs ++ component_resolutions tile shapes i) c.loop-comp.invariant.list
          ∙ none_behind tile shape i (tile_precincts tile (take i shapes)) (tile_blocks tile (take i shapes)) lacks);
    }

pub returns-clause-blocks : goal.returns-clause-blocks
returns-clause-blocks c is =
    let all : take c.loop-comp.comp c.args.comps.now ≡ c.args.comps.now = take_all c.loop-comp.comp c.args.comps.now c.loop-comp-test.false in
    rw all at c.loop-comp.invariant.blocks

pub returns-clause-precincts : goal.returns-clause-precincts
returns-clause-precincts c is =
    let all : take c.loop-comp.comp c.args.comps.now ≡ c.args.comps.now = take_all c.loop-comp.comp c.args.comps.now c.loop-comp-test.false in
    rw all at c.loop-comp.invariant.precincts

pub returns-clause-list : goal.returns-clause-list
unfolding all_resolutions
returns-clause-list c is =
    let all : c.loop-comp.comp ≡ length c.args.comps.now = omega (arith, c.loop-comp-test.false, c.loop-comp.auto.comp-end) in
    rw all at c.loop-comp.invariant.list
