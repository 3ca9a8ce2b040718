use Rattle.std.proofs.Common.{◌∙◌, refl, arith}
use Rattle.std.proofs.lemmas.Result.{err_from_is_err_and}
use Rattle.jx_tagtree.specs.Header.{to_come}
use Rattle.jx_packet_header.proofs.WordLemmas.{taking_bit, taking_large, taking_end, taking_none, taking_fits}
use Rattle.jx_packet_header.proofs.words.read_number.Goals as goal

pub returns-in_err-flag-clause-err : goal.returns-in_err-flag-clause-err
returns-in_err-flag-clause-err c =
    let p = err_from_is_err_and c.from_residual.result c.from_residual.ensures.1 in
    rw (p.1, p.2) (
      c.in_err-flag.ensures.err.0,
      taking_none c.args.width c.loop-taken.taken c.loop-taken.value (to_come c.args.bits.now) (to_come c.loop-taken.bits) c.loop-taken.invariant.0 c.loop-taken-test.true c.in_err-flag.ensures.err.1,
    )

pub returns-then-next-clause-err : goal.returns-then-next-clause-err
returns-then-next-clause-err c = (
  refl,
  taking_large c.args.width c.loop-taken.taken c.loop-taken.value c.with_bit-next.result (to_come c.args.bits.now) (to_come c.loop-taken.bits) c.in_ok-flag.field-0 (to_come c.flag.new.bits)
      c.loop-taken.invariant.0 c.loop-taken-test.true c.in_ok-flag.ensures.ok c.with_bit-next.ensures (omega arith),
)

pub loop-taken-preserved : goal.loop-taken-preserved
loop-taken-preserved c = (
  (taking_bit c.args.width c.loop-taken.taken c.loop-taken.value c.with_bit-next.result (to_come c.args.bits.now) (to_come c.loop-taken.bits) c.in_ok-flag.field-0 (to_come c.flag.new.bits)
      c.loop-taken.invariant.0 c.loop-taken-test.true c.in_ok-flag.ensures.ok c.with_bit-next.ensures).1 (omega arith),
  c.in_ok-flag.ensures.frame ∙ c.loop-taken.invariant.1,
)

pub returns-clause-ok : goal.returns-clause-ok
returns-clause-ok c = taking_end c.args.width c.loop-taken.taken c.loop-taken.value (to_come c.args.bits.now) (to_come c.loop-taken.bits) c.loop-taken.invariant.0 c.loop-taken-test.false

pub returns-clause-fits : goal.returns-clause-fits
returns-clause-fits c = taking_fits c.args.width c.loop-taken.taken c.loop-taken.value (to_come c.args.bits.now) (to_come c.loop-taken.bits) c.loop-taken.invariant.0
