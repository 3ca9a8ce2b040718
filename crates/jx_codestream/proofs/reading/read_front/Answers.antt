use Rattle.std.proofs.Common.{◌∙◌, sym}
use Rattle.jx_codestream.proofs.FirstLemmas.{front_15, front_16, front_cause, front_clear, siz_value}
use Rattle.jx_codestream.proofs.reading.read_front.Goals as goal

pub returns-then-not-has_marker-clause-answer : goal.returns-then-not-has_marker-clause-answer
returns-then-not-has_marker-clause-answer c = rw c.violated.ensures (front_15 c.args.bytes.now (sym c.has_marker.ensures ∙ c.if-not-has_marker.true))

pub returns-then-not-has_marker-2-clause-answer : goal.returns-then-not-has_marker-2-clause-answer
returns-then-not-has_marker-2-clause-answer c =
    rw c.violated-then-not-has_marker-2.ensures (front_16 c.args.bytes.now (sym c.has_marker.ensures ∙ c.if-not-has_marker.false) (sym c.has_marker-2.ensures ∙ c.if-not-has_marker-2.true))

pub returns-in-Siz-clause-answer : goal.returns-in-Siz-clause-answer
returns-in-Siz-clause-answer c =
    let soc = sym c.has_marker.ensures ∙ c.if-not-has_marker.false in
    let siz = sym c.has_marker-2.ensures ∙ c.if-not-has_marker-2.false in (
      front_clear c.args.bytes.now soc siz c.in-Ok.ensures.found.rules,
      (siz_value c.args.bytes.now c.in-Ok.segment c.in-Siz.siz siz c.in-Ok.ensures.found.value c.in-Siz.is, c.in-Ok.ensures.after.0),
    )

pub returns-in-Err-clause-answer : goal.returns-in-Err-clause-answer
returns-in-Err-clause-answer c =
    rw c.fault_of.ensures (front_cause c.args.bytes.now c.in-Err.rule c.read_segment.result (sym c.has_marker.ensures ∙ c.if-not-has_marker.false) (sym c.has_marker-2.ensures ∙ c.if-not-has_marker-2.false) c.in-Err.is c.read_segment.ensures.broken)
