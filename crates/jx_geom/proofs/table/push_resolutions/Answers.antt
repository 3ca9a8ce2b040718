use Rattle.std.proofs.Common.{◌≡◌, ◌+◌, ◌++◌, ◌∙◌, ap, arith}
use Rattle.jx_base.specs.Joined.{joined, sum_below}
use Rattle.jx_base.proofs.Joined.{appends_none, appends_next}
use Rattle.jx_base.proofs.Sums.{sum_below_more, sum_below_next}
use Rattle.jx_geom.specs.Counts.{component_blocks, component_precincts, precinct_count, resolution_blocks}
use Rattle.jx_geom.specs.Resolutions.{one_behind}
use Rattle.jx_geom.proofs.TableLemmas.{one_is}
use Rattle.jx_geom.proofs.table.push_resolutions.Goals as goal

pub loop-res-init : goal.loop-res-init
loop-res-init c = record {
  list = appends_none c.args.list.now.items (one_behind c.args.tile c.args.shape.now c.args.comp c.args.before.precincts c.args.before.blocks) 0 0 (omega arith);
  precincts = omega arith;
  blocks = omega arith;
}

pub push_resolution-requires-clause-precincts : goal.push_resolution-requires-clause-precincts
unfolding component_precincts
push_resolution-requires-clause-precincts c =
    let room = sum_below_more (precinct_count c.args.tile c.args.shape.now) c.loop-res.res (c.args.shape.now.levels + 1) c.loop-res-test.true in
    omega (arith, room, c.loop-res.invariant.precincts, c.requires.precincts)

pub push_resolution-requires-clause-blocks : goal.push_resolution-requires-clause-blocks
unfolding component_blocks
push_resolution-requires-clause-blocks c =
    let room = sum_below_more (resolution_blocks c.args.tile c.args.shape.now) c.loop-res.res (c.args.shape.now.levels + 1) c.loop-res-test.true in
    omega (arith, room, c.loop-res.invariant.blocks, c.requires.blocks)

pub loop-res-preserved : goal.loop-res-preserved
loop-res-preserved c =
    let step = one_is c.args.tile c.args.shape.now c.args.comp c.args.before.precincts c.args.before.blocks c.loop-res.res c.loop-res.now.precincts c.loop-res.now.blocks
    c.loop-res.list.items c.push_resolution.new.list.items c.loop-res.invariant.precincts c.loop-res.invariant.blocks c.in_ok-now.ensures.list in
    record {
      list = appends_next c.args.list.now.items c.loop-res.list.items c.push_resolution.new.list.items
          (one_behind c.args.tile c.args.shape.now c.args.comp c.args.before.precincts c.args.before.blocks) 0 c.loop-res.res (omega arith)
          c.loop-res.invariant.list step;
      precincts = omega (arith, c.in_ok-now.ensures.precincts, c.loop-res.invariant.precincts, sum_below_next (precinct_count c.args.tile c.args.shape.now) c.loop-res.res);
      blocks = omega (arith, c.in_ok-now.ensures.blocks, c.loop-res.invariant.blocks, sum_below_next (resolution_blocks c.args.tile c.args.shape.now) c.loop-res.res);
    }

pub returns-clause-list : goal.returns-clause-list
returns-clause-list c =
    let all : c.loop-res.res ≡ c.args.shape.now.levels + 1 = omega (arith, c.loop-res-test.false, c.loop-res.auto.res-end) in
    c.loop-res.invariant.list ∙ ap (λ n. c.args.list.now.items ++ joined (one_behind c.args.tile c.args.shape.now c.args.comp c.args.before.precincts c.args.before.blocks) 0 n) all

pub returns-clause-precincts : goal.returns-clause-precincts
unfolding component_precincts
returns-clause-precincts c =
    let all : c.loop-res.res ≡ c.args.shape.now.levels + 1 = omega (arith, c.loop-res-test.false, c.loop-res.auto.res-end) in
    c.loop-res.invariant.precincts ∙ ap (λ n. c.args.before.precincts + sum_below (precinct_count c.args.tile c.args.shape.now) n) all

pub returns-clause-blocks : goal.returns-clause-blocks
unfolding component_blocks
returns-clause-blocks c =
    let all : c.loop-res.res ≡ c.args.shape.now.levels + 1 = omega (arith, c.loop-res-test.false, c.loop-res.auto.res-end) in
    c.loop-res.invariant.blocks ∙ ap (λ n. c.args.before.blocks + sum_below (resolution_blocks c.args.tile c.args.shape.now) n) all
