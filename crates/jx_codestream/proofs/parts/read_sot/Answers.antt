use Rattle.std.proofs.Common.{◌∙◌, sym, ap}
use Rattle.jx_marker.specs.declared.Segment.{Segment}
use Rattle.jx_marker.specs.declared.Segment.TheVariants as segment
use Rattle.jx_marker.specs.declared.Sot.{Sot}
use Rattle.jx_codestream.specs.Parts.{sot_in}
use Rattle.jx_codestream.proofs.PartLemmas.{sot_of_segment, start_cause, start_clear, start_missing}
use Rattle.jx_codestream.proofs.parts.read_sot.Goals as goal

abbrev sot_or : Sot → Segment → Sot
sot_or other (segment.Sot sot) = sot
sot_or other _ = other

pub returns-then-not-has_marker-clause-answer : goal.returns-then-not-has_marker-clause-answer
returns-then-not-has_marker-clause-answer c =
    rw c.violated.ensures (start_missing c.args.comps c.args.bytes.now c.args.at (sym c.has_marker.ensures ∙ c.if-not-has_marker.true) c.requires.goes_on)

pub returns-in-None-clause-answer : goal.returns-in-None-clause-answer
returns-in-None-clause-answer c =
    let stands = sym c.has_marker.ensures ∙ c.if-not-has_marker.false in
    absurd (c.in-None.ensures (sot_in c.args.bytes.now c.args.at) (sot_of_segment c.args.comps c.args.bytes.now c.args.at c.in-Ok.segment stands c.in-Ok.ensures.found.value))

pub returns-in-Some-clause-answer : goal.returns-in-Some-clause-answer
returns-in-Some-clause-answer c =
    let stands = sym c.has_marker.ensures ∙ c.if-not-has_marker.false in
    let sot = sot_of_segment c.args.comps c.args.bytes.now c.args.at c.in-Ok.segment stands c.in-Ok.ensures.found.value in
    (start_clear c.args.comps c.args.bytes.now c.args.at stands c.in-Ok.ensures.found.rules, (ap (sot_or c.in-Some.sot) (sym c.in-Some.ensures ∙ sot), c.in-Ok.ensures.after.0))

pub returns-in-Err-clause-answer : goal.returns-in-Err-clause-answer
returns-in-Err-clause-answer c =
    rw c.fault_of.ensures (start_cause c.args.comps c.args.bytes.now c.args.at c.in-Err.rule c.read_segment.result (sym c.has_marker.ensures ∙ c.if-not-has_marker.false) c.in-Err.is c.read_segment.ensures.broken)
