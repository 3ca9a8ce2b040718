use Rattle.std.proofs.Common.{◌≡◌, ◌∙◌, ◌<◌, ◌==◌, ℕ, true, false, length, not, List, sym, ap, subst}
use Rattle.std.proofs.lemmas.Result.{err_from_is_err_and}
use Rattle.std.specs.List.{All}
use Rattle.jx_codestream.specs.First.{lacks_part}
use Rattle.jx_codestream.specs.declared.packed.PackedSegment.{PackedSegment}
use Rattle.jx_codestream.specs.declared.parts.PlacedPart.{PlacedPart}
use Rattle.jx_codestream.specs.PackedHeaders.{shares_fault, with_shares}
use Rattle.jx_codestream.proofs.FaultLemmas.{cause_same}
use Rattle.jx_codestream.proofs.SharesLemmas.{shares_keep}
use Rattle.jx_codestream.proofs.FirstLemmas.{are_there, body_main, body_parts, body_24, body_clear, body_shares, lacks_by_counts, some_packed}
use Rattle.jx_codestream.proofs.reading.read_body.Goals as goal

pub returns-in_err-main-clause-answer : goal.returns-in_err-main-clause-answer
returns-in_err-main-clause-answer c =
    let p = err_from_is_err_and c.from_residual.result c.from_residual.ensures.1 in
    rw (p.1, p.2) (body_main c.args.comps (length c.args.counts.now) c.args.bytes.now c.args.start c.in_err-main.field-0.0 c.in_err-main.ensures.answer)

pub returns-in_err-parts-clause-answer : goal.returns-in_err-parts-clause-answer
returns-in_err-parts-clause-answer c =
    let p = err_from_is_err_and c.from_residual-in_err-parts.result c.from_residual-in_err-parts.ensures.1 in
    let m = c.in_ok-main in
    rw (p.1, p.2) (body_parts c.args.comps (length c.args.counts.now) c.args.bytes.now c.args.start c.in_err-parts.field-0.0 m.main (not c.is_empty-some.result) m.ensures.answer.0 m.ensures.answer.1
    (some_packed c.args.comps c.args.bytes.now c.args.start m.main m.packed.items c.is_empty-some.result m.ensures.answer.1 m.ensures.packed (c.is_empty-some.ensures ∙ ap (λ (n : ℕ). n == 0) m.packed.ok.0)) c.in_err-parts.ensures.answer)

pub returns-then-lacks_part-clause-answer : goal.returns-then-lacks_part-clause-answer
returns-then-lacks_part-clause-answer c =
    let m = c.in_ok-main in
    let lacks : lacks_part c.in_ok-parts.parts.items (length c.args.counts.now) ≡ true =
    lacks_by_counts c.in_ok-parts.parts.items c.read_parts.new.counts c.read_parts.new.told (length c.args.counts.now) c.lacks_part.result c.in_ok-parts.ensures.tracks c.read_parts.auto.counts c.lacks_part.ensures ∙ c.if-lacks_part.true in
    rw c.violated.ensures (body_24 c.args.comps (length c.args.counts.now) c.args.bytes.now c.args.start m.main (not c.is_empty-some.result) c.in_ok-parts.parts.items c.in_ok-parts.eoc m.ensures.answer.0 m.ensures.answer.1
    (some_packed c.args.comps c.args.bytes.now c.args.start m.main m.packed.items c.is_empty-some.result m.ensures.answer.1 m.ensures.packed (c.is_empty-some.ensures ∙ ap (λ (n : ℕ). n == 0) m.packed.ok.0))
    c.in_ok-parts.ensures.answer.0 c.in_ok-parts.ensures.answer.1.0 c.in_ok-parts.ensures.answer.1.1 lacks)

pub returns-in_err-shared-clause-answer : goal.returns-in_err-shared-clause-answer
returns-in_err-shared-clause-answer c =
    let p = err_from_is_err_and c.from_residual-in_err-shared.result c.from_residual-in_err-shared.ensures.1 in
    let m = c.in_ok-main in
    let lacks : lacks_part c.in_ok-parts.parts.items (length c.args.counts.now) ≡ false =
    lacks_by_counts c.in_ok-parts.parts.items c.read_parts.new.counts c.read_parts.new.told (length c.args.counts.now) c.lacks_part.result c.in_ok-parts.ensures.tracks c.read_parts.auto.counts c.lacks_part.ensures ∙ c.if-lacks_part.false in
    let are = are_there c.args.comps (length c.args.counts.now) c.args.bytes.now c.args.start m.main (not c.is_empty-some.result) c.in_ok-parts.parts.items m.packed.items m.ensures.answer.0 m.ensures.answer.1
    (some_packed c.args.comps c.args.bytes.now c.args.start m.main m.packed.items c.is_empty-some.result m.ensures.answer.1 m.ensures.packed (c.is_empty-some.ensures ∙ ap (λ (n : ℕ). n == 0) m.packed.ok.0))
    c.in_ok-parts.ensures.answer.0 c.in_ok-parts.ensures.answer.1.0 lacks m.ensures.packed in
    rw (p.1, p.2) (body_shares c.args.comps (length c.args.counts.now) c.args.bytes.now c.args.start c.in_err-shared.field-0.0 c.in_ok-parts.parts.items m.packed.items are
    (cause_same c.in_err-shared.field-0.0 (shares_fault c.args.bytes.now c.deref.result.now c.in_ok-parts.parts.items) (shares_fault c.args.bytes.now m.packed.items c.in_ok-parts.parts.items)
    (ap (λ (x : List PackedSegment). shares_fault c.args.bytes.now x c.in_ok-parts.parts.items) c.deref.ensures.value) c.in_err-shared.ensures))

pub returns-clause-answer : goal.returns-clause-answer
returns-clause-answer c =
    let m = c.in_ok-main in
    let lacks : lacks_part c.in_ok-parts.parts.items (length c.args.counts.now) ≡ false =
    lacks_by_counts c.in_ok-parts.parts.items c.read_parts.new.counts c.read_parts.new.told (length c.args.counts.now) c.lacks_part.result c.in_ok-parts.ensures.tracks c.read_parts.auto.counts c.lacks_part.ensures ∙ c.if-lacks_part.false in
    let are = are_there c.args.comps (length c.args.counts.now) c.args.bytes.now c.args.start m.main (not c.is_empty-some.result) c.in_ok-parts.parts.items m.packed.items m.ensures.answer.0 m.ensures.answer.1
    (some_packed c.args.comps c.args.bytes.now c.args.start m.main m.packed.items c.is_empty-some.result m.ensures.answer.1 m.ensures.packed (c.is_empty-some.ensures ∙ ap (λ (n : ℕ). n == 0) m.packed.ok.0))
    c.in_ok-parts.ensures.answer.0 c.in_ok-parts.ensures.answer.1.0 lacks m.ensures.packed in
    let same : shares_fault c.args.bytes.now c.deref.result.now c.in_ok-parts.parts.items ≡ shares_fault c.args.bytes.now m.packed.items c.in_ok-parts.parts.items =
    ap (λ (x : List PackedSegment). shares_fault c.args.bytes.now x c.in_ok-parts.parts.items) c.deref.ensures.value in
    let made : c.in_ok-shared.shared.items ≡ with_shares c.args.bytes.now m.packed.items c.in_ok-parts.parts.items =
    c.in_ok-shared.ensures.1 ∙ ap (λ (x : List PackedSegment). with_shares c.args.bytes.now x c.in_ok-parts.parts.items) c.deref.ensures.value in
    let p = body_clear c.args.comps (length c.args.counts.now) c.args.bytes.now c.args.start c.in_ok-parts.parts.items c.in_ok-shared.shared.items m.packed.items are (sym same ∙ c.in_ok-shared.ensures.0) made in
    (p.0, (m.ensures.answer.1, p.1))

pub returns-clause-tiles : goal.returns-clause-tiles
returns-clause-tiles c =
    let P : PlacedPart → Type 0 = λ (part : PlacedPart). part.sot.tile < length c.args.counts.now in
    subst (All P) (sym c.in_ok-shared.ensures.1) (shares_keep P (λ part pieces h. h) c.args.bytes.now c.deref.result.now c.in_ok-parts.parts.items c.in_ok-parts.ensures.tiles)
