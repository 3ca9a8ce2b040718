use Rattle.std.proofs.Common.{◌∙◌}
use Rattle.jx_tagtree.specs.Header.{to_come}
use Rattle.jx_packet_header.specs.Scan.{scan_more_zeros}
use Rattle.jx_packet_header.proofs.ZerosLemmas.{zeros_all, zeros_found, zeros_next, zeros_stop}
use Rattle.jx_packet_header.proofs.query.count_zeros.Goals as goal

pub loop-zeros-preserved : goal.loop-zeros-preserved
loop-zeros-preserved c = (
  zeros_next (scan_more_zeros c.args.tree.now c.args.leaf 0 c.args.planes (to_come c.args.bits.now)) c.loop-zeros.tree c.query.new.tree c.args.leaf c.loop-zeros.zeros c.args.planes
      (to_come c.loop-zeros.bits) (to_come c.query.new.bits) c.in-Ok-false.field-0 c.loop-zeros-test.true c.loop-zeros.invariant.0 c.in-Ok-false.ensures.ok c.in-Ok-false.field-0-test,
  c.in-Ok-false.ensures.frame ∙ c.loop-zeros.invariant.1,
  c.in-Ok-false.ensures.leaf,
)

pub returns-in-Ok-true-clause-ok : goal.returns-in-Ok-true-clause-ok
returns-in-Ok-true-clause-ok c =
    zeros_found (scan_more_zeros c.args.tree.now c.args.leaf 0 c.args.planes (to_come c.args.bits.now)) c.loop-zeros.tree c.query.new.tree c.args.leaf c.loop-zeros.zeros c.args.planes
    (to_come c.loop-zeros.bits) (to_come c.query.new.bits) c.in-Ok-true.field-0 c.loop-zeros-test.true c.loop-zeros.invariant.0 c.in-Ok-true.ensures.ok c.in-Ok-true.field-0-test

pub returns-in-Ok-true-clause-frame : goal.returns-in-Ok-true-clause-frame
returns-in-Ok-true-clause-frame c = c.in-Ok-true.ensures.frame ∙ c.loop-zeros.invariant.1

pub returns-clause-ok : goal.returns-clause-ok
returns-clause-ok c =
    zeros_all (scan_more_zeros c.args.tree.now c.args.leaf 0 c.args.planes (to_come c.args.bits.now)) c.loop-zeros.tree c.args.leaf c.loop-zeros.zeros c.args.planes
    (to_come c.loop-zeros.bits) c.loop-zeros-test.false c.loop-zeros.auto.zeros-end c.loop-zeros.invariant.0

pub returns-in-Err-clause-err : goal.returns-in-Err-clause-err
returns-in-Err-clause-err c = (
  c.in-Err.ensures.err.0,
  zeros_stop (scan_more_zeros c.args.tree.now c.args.leaf 0 c.args.planes (to_come c.args.bits.now)) c.loop-zeros.tree c.args.leaf c.loop-zeros.zeros c.args.planes
      (to_come c.loop-zeros.bits) c.loop-zeros-test.true c.loop-zeros.invariant.0 c.in-Err.ensures.err.1,
)
