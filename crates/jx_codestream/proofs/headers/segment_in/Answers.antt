use Rattle.std.proofs.Common.{◌∙◌, sym, arith, drop, refl}
use Rattle.jx_codestream.proofs.SharesLemmas.{next_is}
use Rattle.jx_codestream.proofs.HeaderLemmas.{early_clear, early_14, early_19, early_cause}
use Rattle.jx_codestream.proofs.headers.segment_in.Goals as goal

pub returns-then-is_packed_twice-clause-answer : goal.returns-then-is_packed_twice-clause-answer
returns-then-is_packed_twice-clause-answer c =
    rw c.violated.ensures (early_14 c.args.kind c.args.comps c.args.bytes.now c.args.at c.in-Ok.ensures.found.rules (rw c.in-Ok.ensures.found.value (sym c.is_packed_twice.ensures ∙ c.if-is_packed_twice.true)))

pub returns-then-stands_in-clause-answer : goal.returns-then-stands_in-clause-answer
returns-then-stands_in-clause-answer c = (
  early_clear c.args.kind c.args.comps c.args.bytes.now c.args.at c.in-Ok.ensures.found.rules (rw c.in-Ok.ensures.found.value (sym c.is_packed_twice.ensures ∙ c.if-is_packed_twice.false)) (rw c.in-Ok.ensures.found.value (sym c.stands_in.ensures ∙ c.if-stands_in.true)),
  sym c.in-Ok.ensures.found.value,
)

pub returns-else-stands_in-clause-answer : goal.returns-else-stands_in-clause-answer
returns-else-stands_in-clause-answer c =
    rw c.violated-in-Ok.ensures (early_19 c.args.kind c.args.comps c.args.bytes.now c.args.at c.in-Ok.ensures.found.rules (rw c.in-Ok.ensures.found.value (sym c.is_packed_twice.ensures ∙ c.if-is_packed_twice.false)) (rw c.in-Ok.ensures.found.value (sym c.stands_in.ensures ∙ c.if-stands_in.false)))

pub returns-in-Err-clause-answer : goal.returns-in-Err-clause-answer
returns-in-Err-clause-answer c =
    rw c.fault_of.ensures (early_cause c.args.kind c.args.comps c.args.bytes.now c.args.at c.in-Err.rule c.read_segment.result c.in-Err.is c.read_segment.ensures.broken)

pub returns-then-stands_in-clause-size : goal.returns-then-stands_in-clause-size
returns-then-stands_in-clause-size c =
    let begins = c.in-Ok.ensures.spelled in
    next_is c.args.bytes.now c.args.comps c.args.at c.in-Ok.next c.in-Ok.segment (drop c.in-Ok.next c.args.bytes.now) c.requires.place c.in-Ok.ensures.after.1 begins.spelled refl
    (omega (arith, c.in-Ok.ensures.after.0))
