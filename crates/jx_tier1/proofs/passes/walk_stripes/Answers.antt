use Rattle.std.proofs.Common.{◌+◌, ◌%◌, ◌∙◌, refl, arith}
use Rattle.jx_tier1.proofs.GroupPace.{stripes_none, stripe_walked, stripes_done}
use Rattle.jx_tier1.proofs.passes.walk_stripes.Goals as goal

pub loop-stripe-init : goal.loop-stripe-init
loop-stripe-init g c = record {
  size = record { width = refl; height = refl };
  walk = λ v n m. stripes_none g.S.Source.ask c.args.kind c.args.plane ((c.args.kind + 2) % 3) v c.args.block.now c.args.source.now m;
}

pub walk_stripe-requires-clause-wide : goal.walk_stripe-requires-clause-wide
walk_stripe-requires-clause-wide g c =
    let e = c.loop-stripe.invariant.size.width in
    let l = c.requires.wide in
    omega arith

pub walk_stripe-requires-clause-high : goal.walk_stripe-requires-clause-high
walk_stripe-requires-clause-high g c =
    let e = c.loop-stripe.invariant.size.height in
    let l = c.requires.high in
    omega arith

pub walk_stripe-requires-clause-stripe : goal.walk_stripe-requires-clause-stripe
walk_stripe-requires-clause-stripe g c =
    let e = c.loop-stripe.invariant.size.height in
    let d = c.stripes-stripe-end.ensures in
    let l = c.loop-stripe-test.true in
    omega arith

pub loop-stripe-preserved : goal.loop-stripe-preserved
loop-stripe-preserved g c =
    let i = c.loop-stripe.invariant in
    let k = c.in_ok-walk_stripe.ensures in
    record {
      size = record { width = k.size.width ∙ i.size.width; height = k.size.height ∙ i.size.height };
      walk = λ v n m.
          let h = m.drawn.height in
          let d = c.stripes-stripe-end.ensures in
          let l = c.loop-stripe-test.true in
          stripe_walked g.S.Source.ask c.args.kind c.args.plane ((c.args.kind + 2) % 3) c.loop-stripe.stripe v c.loop-stripe.block c.walk_stripe.new.block
          c.args.source.now c.loop-stripe.source c.walk_stripe.new.source n (omega arith) (i.walk v n m) (λ u a p. k.walk u a.now p);
    }

pub returns-clause-walk : goal.returns-clause-walk
returns-clause-walk g c = λ v n m.
    let h = m.drawn.height in
    let d = c.stripes-stripe-end.ensures in
    let l = c.loop-stripe-test.false in
    stripes_done g.S.Source.ask c.args.kind c.args.plane ((c.args.kind + 2) % 3) c.loop-stripe.stripe v c.loop-stripe.block c.args.source.now
    c.loop-stripe.source n (omega arith) (c.loop-stripe.invariant.walk v n m)
