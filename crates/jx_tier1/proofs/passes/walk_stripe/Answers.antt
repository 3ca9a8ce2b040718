use Rattle.std.proofs.Common.{◌+◌, ◌%◌, ◌∙◌, refl, arith}
use Rattle.jx_tier1.proofs.GroupPace.{words_none, group_walked, stripe_done}
use Rattle.jx_tier1.proofs.passes.walk_stripe.Goals as goal

pub loop-group-init : goal.loop-group-init
loop-group-init g c = record {
  size = record { width = refl; height = refl };
  walk = λ v n m. words_none g.S.Source.ask c.args.kind c.args.plane ((c.args.kind + 2) % 3) c.args.stripe v c.args.block.now c.args.source.now m;
}

pub walk_group-requires-clause-wide : goal.walk_group-requires-clause-wide
walk_group-requires-clause-wide g c =
    let e = c.loop-group.invariant.size.width in
    let l = c.requires.wide in
    omega arith

pub walk_group-requires-clause-high : goal.walk_group-requires-clause-high
walk_group-requires-clause-high g c =
    let e = c.loop-group.invariant.size.height in
    let l = c.requires.high in
    omega arith

pub walk_group-requires-clause-stripe : goal.walk_group-requires-clause-stripe
walk_group-requires-clause-stripe g c =
    let e = c.loop-group.invariant.size.height in
    let l = c.requires.stripe in
    omega arith

pub walk_group-requires-clause-group : goal.walk_group-requires-clause-group
walk_group-requires-clause-group g c =
    let e = c.loop-group.invariant.size.width in
    let d = c.groups-group-end.ensures in
    let l = c.loop-group-test.true in
    omega arith

pub loop-group-preserved : goal.loop-group-preserved
loop-group-preserved g c =
    let i = c.loop-group.invariant in
    let k = c.in_ok-walk_group.ensures in
    record {
      size = record { width = k.size.width ∙ i.size.width; height = k.size.height ∙ i.size.height };
      walk = λ v n m.
          let w = m.drawn.width in
          let h = m.drawn.height in
          let d = c.groups-group-end.ensures in
          let row = c.requires.stripe in
          let l = c.loop-group-test.true in
          group_walked g.S.Source.ask c.args.kind c.args.plane ((c.args.kind + 2) % 3) c.args.stripe c.loop-group.group v c.loop-group.block c.walk_group.new.block
          c.args.source.now c.loop-group.source c.walk_group.new.source n (omega arith) (omega arith) (i.walk v n m) (λ u a p. k.walk u a.now p);
    }

pub returns-clause-walk : goal.returns-clause-walk
returns-clause-walk g c = λ v n m.
    let w = m.drawn.width in
    let h = m.drawn.height in
    let d = c.groups-group-end.ensures in
    let row = c.requires.stripe in
    let l = c.loop-group-test.false in
    stripe_done g.S.Source.ask c.args.kind c.args.plane ((c.args.kind + 2) % 3) c.args.stripe c.loop-group.group v c.loop-group.block c.args.source.now
    c.loop-group.source n (omega arith) (omega arith) (c.loop-group.invariant.walk v n m)
