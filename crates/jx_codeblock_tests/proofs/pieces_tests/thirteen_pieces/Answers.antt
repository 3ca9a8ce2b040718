use Rattle.jx_codeblock_tests.proofs.Samples.{spread_none, spread_next}
use Rattle.jx_codeblock_tests.proofs.pieces_tests.thirteen_pieces.Goals as goal

pub loop-pass-init : goal.loop-pass-init
loop-pass-init c = rw c.new-pieces.ensures (spread_none c.args.style.bits)

pub loop-pass-preserved : goal.loop-pass-preserved
loop-pass-preserved c =
    spread_next c.args.style.bits c.loop-pass.pass c.bytes_of.result.now c.loop-pass.pieces c.push.new.self c.loop-pass.invariant c.bytes_of.ensures.markers c.bytes_of.ensures.few
    c.in_ok-push.ensures.ok
