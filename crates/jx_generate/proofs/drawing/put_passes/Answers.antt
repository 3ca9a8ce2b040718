use Rattle.std.proofs.Common.{◌≡◌, ◌++◌, ◌-◌, ◌+◌, suc, arith}
use Rattle.jx_generate.specs.Drawn.{passes_bytes, past_passes}
use Rattle.jx_generate.proofs.DrawnLemmas.{passed_next, passes_next}
use Rattle.jx_generate.proofs.drawing.put_passes.Goals as goal

pub loop-preserved : goal.loop-preserved
loop-preserved c =
    let e : c.args.count - c.loop.counter ≡ suc (c.args.count - (c.loop.counter + 1)) = omega (arith, c.loop-test.true) in (
      passes_next c.loop.out.items c.put_pass.new.out.items (c.args.out.now.items ++ passes_bytes c.args.state.now c.args.count) c.loop.state c.put_pass.new.state
          (c.args.count - c.loop.counter) (c.args.count - (c.loop.counter + 1)) e c.in_ok-put_pass.ensures.state c.in_ok-put_pass.ensures.bytes c.loop.invariant.0,
      passed_next c.loop.state c.put_pass.new.state (c.args.count - c.loop.counter) (c.args.count - (c.loop.counter + 1)) (past_passes c.args.state.now c.args.count) e
          c.in_ok-put_pass.ensures.state c.loop.invariant.1,
    )
