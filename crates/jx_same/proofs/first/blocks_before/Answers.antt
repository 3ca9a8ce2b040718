use Rattle.std.proofs.Common.{arith}
use Rattle.jx_same.proofs.first.blocks_before.Goals as goal

pub loop-low-preserved-then-is_below : goal.loop-low-preserved-then-is_below
loop-low-preserved-then-is_below c = record {
  order = omega (arith, c.loop-low-test.true);
  inside = c.loop-low.invariant.inside;
  around = λ count are. (
    omega (arith, c.is_below.ensures.below c.if-is_below.true count are),
    (c.loop-low.invariant.around count are).1,
  );
}

pub loop-low-preserved : goal.loop-low-preserved
loop-low-preserved c = record {
  order = omega arith;
  inside = omega (arith, c.loop-low-test.true, c.loop-low.invariant.inside);
  around = λ count are. (
    (c.loop-low.invariant.around count are).0,
    c.is_below.ensures.past c.if-is_below.false count are,
  );
}

pub returns : goal.returns
returns c = λ count are.
    let around = c.loop-low.invariant.around count are in
    omega (arith, around.0, around.1, c.loop-low-test.false)
