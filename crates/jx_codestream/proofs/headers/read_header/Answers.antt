use Rattle.std.proofs.Common.{◌≡◌, ◌∙◌, ◌≤◌, arith, drop, sym, ap, true, false}
use Rattle.std.proofs.lemmas.Result.{err_from_is_err_and}
use Rattle.jx_marker.specs.Segments.{size_at}
use Rattle.jx_codestream.specs.Headers.{ends_header, is_second}
use Rattle.jx_codestream.proofs.HeaderLemmas.{read_early, read_second, read_end, read_more, marks_at, second_at, progress, size_is_two}
use Rattle.jx_codestream.specs.PackedHeaders.{packed_from}
use Rattle.jx_codestream.proofs.SharesLemmas.{lie_more, packed_more, size_on}
use Rattle.jx_codestream.proofs.headers.read_header.Goals as goal

pub returns-in_err-segment-clause-answer : goal.returns-in_err-segment-clause-answer
returns-in_err-segment-clause-answer c =
    let p = err_from_is_err_and c.from_residual.result c.from_residual.ensures.1 in
    rw (p.1, p.2) (read_early c.args.kind c.args.comps c.args.bytes.now c.args.at c.segments.segments.items c.segments.place c.segments.invariant.same c.in_err-segment.field-0.0 c.in_err-segment.ensures.answer)

pub returns-then-ends_header-clause-answer : goal.returns-then-ends_header-clause-answer
returns-then-ends_header-clause-answer c =
    let p = read_end c.args.kind c.args.comps c.args.bytes.now c.args.at c.segments.segments.items c.segments.place c.segments.invariant.same c.in_ok-segment.ensures.answer.0
    (sym (ap ends_header c.in_ok-segment.ensures.answer.1) ∙ sym c.ends_header.ensures ∙ c.if-ends_header.true) in
    rw c.new.ensures (p.0, sym p.1)

pub returns-then-mark-clause-answer : goal.returns-then-mark-clause-answer
returns-then-mark-clause-answer c =
    rw c.violated.ensures (read_second c.args.kind c.args.comps c.args.bytes.now c.args.at c.segments.segments.items c.segments.place c.segments.invariant.same c.in_ok-segment.ensures.answer.0
    (sym (ap (is_second c.segments.segments.items) c.in_ok-segment.ensures.answer.1)
    ∙ second_at c.args.comps c.args.at c.segments.segments.items c.in_ok-segment.segment c.slot_of.result c.segments.seen true c.slot_of.ensures c.in_ok-segment.ensures.range
    (c.segments.auto.seen ∙ c.requires.slots) c.segments.invariant.marks c.if-mark.ensures.found))

pub segments-smaller : goal.segments-smaller
segments-smaller c = (progress c.args.bytes.now c.segments.place c.in_ok-segment.next c.in_ok-segment.ensures.after.0 c.in_ok-segment.ensures.after.1).1

pub segments-preserved : goal.segments-preserved
segments-preserved c =
    let on = progress c.args.bytes.now c.segments.place c.in_ok-segment.next c.in_ok-segment.ensures.after.0 c.in_ok-segment.ensures.after.1 in
    let single : is_second c.segments.segments.items c.in_ok-segment.segment ≡ false = second_at c.args.comps c.args.at c.segments.segments.items c.in_ok-segment.segment c.slot_of.result c.segments.seen false c.slot_of.ensures c.in_ok-segment.ensures.range
    (c.segments.auto.seen ∙ c.requires.slots) c.segments.invariant.marks c.if-mark.ensures.found in
    record {
      from = omega (arith, on.2);
      within = c.in_ok-segment.ensures.after.1;
      same = read_more c.args.kind c.args.comps c.args.bytes.now c.args.at c.segments.segments.items c.push.new.self.items c.in_ok-segment.segment c.segments.place c.in_ok-segment.next c.segments.invariant.same on.0
          c.in_ok-segment.ensures.answer.0 c.in_ok-segment.ensures.answer.1 single (sym c.ends_header.ensures ∙ c.if-ends_header.false) c.in_ok-push.ensures.items c.in_ok-segment.ensures.after.0;
      marks = marks_at c.args.comps c.args.at c.segments.segments.items c.push.new.self.items c.in_ok-segment.segment c.slot_of.result c.segments.seen c.mark.new.seen c.slot_of.ensures c.in_ok-segment.ensures.range
          (c.segments.auto.seen ∙ c.requires.slots) c.mark.ensures.after c.in_ok-push.ensures.items c.segments.invariant.marks;
      size = size_on c.args.comps c.args.at c.segments.segments.items c.push.new.self.items c.in_ok-segment.segment c.segments.place c.in_ok-segment.next c.segments.invariant.size c.in_ok-segment.ensures.size c.in_ok-push.ensures.items;
      packed = packed_more c.args.comps c.args.at c.segments.segments.items c.push.new.self.items c.in_ok-segment.segment c.segments.place c.segments.packed.items c.push_packed.new.packed.items c.segments.invariant.packed
          c.segments.invariant.size c.in_ok-push_packed.ensures c.in_ok-push.ensures.items;
      lie = lie_more c.args.bytes.now c.args.comps c.segments.place c.in_ok-segment.next c.in_ok-segment.segment c.segments.packed.items c.push_packed.new.packed.items c.segments.invariant.lie c.in_ok-segment.ensures.size
          c.in_ok-segment.ensures.after.1 c.in_ok-push_packed.ensures;
    }

pub returns-then-ends_header-clause-within : goal.returns-then-ends_header-clause-within
returns-then-ends_header-clause-within c =
    let two : 2 ≤ size_at (drop c.segments.place c.args.bytes.now) = size_is_two (drop c.segments.place c.args.bytes.now) in
    (c.segments.invariant.from, omega (arith, c.in_ok-segment.ensures.after.0, c.in_ok-segment.ensures.after.1))

pub returns-then-ends_header-clause-packed : goal.returns-then-ends_header-clause-packed
returns-then-ends_header-clause-packed c = c.segments.invariant.packed ∙ ap (packed_from c.args.comps c.args.at) (sym c.new.ensures)
