use Rattle.std.proofs.Common.{◌≡◌, ◌+◌, ◌++◌, ◌∷◌, ◌-◌, inr, [], ◌∙◌, List, ap, arith, get_or, length, refl, sym}
use Rattle.jx_base.specs.Joined.{joined}
use Rattle.jx_base.proofs.Joined.{joined_none, makes_next}
use Rattle.jx_geom.specs.declared.table.Resolution.{Resolution}
use Rattle.jx_geom.specs.Counts.{component_blocks, component_precincts}
use Rattle.jx_geom.specs.Geometry.{no_shape}
use Rattle.jx_geom.specs.Resolutions.{all_places, all_resolutions, component_resolutions, one_place}
use Rattle.jx_geom.proofs.TableLemmas.{blocks_more, blocks_room, component_is, precincts_more, precincts_room}
use Rattle.jx_geom.proofs.table.table_of.Goals as goal

pub loop-comp-init : goal.loop-comp-init
loop-comp-init c = record {
  places = c.in_ok-places.ensures.items ∙ sym (joined_none (one_place c.args.tile c.args.comps.now) 0 0 (omega arith));
  list = c.new-list.ensures.items ∙ sym (joined_none (component_resolutions c.args.tile c.args.comps.now) 0 0 (omega arith));
  precincts = refl;
  none = λ lt. absurd (omega (arith, lt));
  blocks = refl;
}

pub loop-comp-preserved : goal.loop-comp-preserved
loop-comp-preserved c = record {
  places = makes_next c.loop-comp.places.items c.push.new.self.items (one_place c.args.tile c.args.comps.now) 0 c.loop-comp.comp (omega arith)
      c.loop-comp.invariant.places
      (c.in_ok-push.ensures.items ∙ ap (λ n. c.loop-comp.places.items ++ n ∷ []) (c.len.ensures ∙ (c.loop-comp.list.ok.0 ∙ ap (λ (xs : List Resolution). length xs) c.loop-comp.invariant.list)));
  list = makes_next c.loop-comp.list.items c.push_component.new.list.items (component_resolutions c.args.tile c.args.comps.now) 0 c.loop-comp.comp (omega arith)
      c.loop-comp.invariant.list
      (component_is c.args.tile c.args.comps.now c.loop-comp.comp c.loop-comp.before.precincts c.loop-comp.before.blocks
      c.loop-comp.list.items c.push_component.new.list.items c.loop-comp.invariant.precincts c.loop-comp.invariant.blocks c.in_ok-before.ensures.list);
  none = λ lt. rw (let e : (c.loop-comp.comp + 1) - 1 ≡ c.loop-comp.comp = omega arith in e) c.is_empty_after-none.ensures;
  precincts = c.in_ok-before.ensures.precincts ∙ (ap (λ n. n + component_precincts c.args.tile (get_or c.args.comps.now c.loop-comp.comp no_shape)) c.loop-comp.invariant.precincts
      ∙ sym (precincts_more c.args.tile c.args.comps.now c.loop-comp.comp c.loop-comp-test.true));
  blocks = c.in_ok-before.ensures.blocks ∙ (ap (λ n. n + component_blocks c.args.tile (get_or c.args.comps.now c.loop-comp.comp no_shape)) c.loop-comp.invariant.blocks
      ∙ sym (blocks_more c.args.tile c.args.comps.now c.loop-comp.comp c.loop-comp-test.true));
}

pub returns-clause-places : goal.returns-clause-places
unfolding all_places
returns-clause-places c =
    let all : c.loop-comp.comp ≡ length c.args.comps.now = omega (arith, c.loop-comp-test.false, c.loop-comp.auto.comp-end) in
    inr (c.loop-comp.invariant.places ∙ ap (λ n. joined (one_place c.args.tile c.args.comps.now) 0 n) all)

pub returns-clause-list : goal.returns-clause-list
unfolding all_resolutions
returns-clause-list c =
    let all : c.loop-comp.comp ≡ length c.args.comps.now = omega (arith, c.loop-comp-test.false, c.loop-comp.auto.comp-end) in
    c.loop-comp.invariant.list ∙ ap (λ n. joined (component_resolutions c.args.tile c.args.comps.now) 0 n) all

pub push_component-requires-clause-shape : goal.push_component-requires-clause-shape
push_component-requires-clause-shape c = c.requires.comps c.loop-comp.comp c.loop-comp-test.true

pub push_component-requires-clause-precincts : goal.push_component-requires-clause-precincts
push_component-requires-clause-precincts c =
    let room = precincts_room c.args.tile c.args.comps.now c.loop-comp.comp c.loop-comp-test.true in
    omega (arith, room, c.loop-comp.invariant.precincts, c.requires.precincts)

pub push_component-requires-clause-blocks : goal.push_component-requires-clause-blocks
push_component-requires-clause-blocks c =
    let room = blocks_room c.args.tile c.args.comps.now c.loop-comp.comp c.loop-comp-test.true in
    omega (arith, room, c.loop-comp.invariant.blocks, c.requires.blocks)
