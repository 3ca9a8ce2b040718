use Rattle.std.proofs.Common.{◌≡◌, ◌∙◌, sym, ap, subst, length, None, ℕ}
use Rattle.std.proofs.lemmas.Result.{err_from_is_err_and}
use Rattle.jx_marker.specs.declared.Sot.{Sot}
use Rattle.jx_codestream.specs.declared.headers.Header.{Header}
use Rattle.jx_codestream.specs.Faults.{IsCause}
use Rattle.jx_codestream.specs.Headers.{header_fault}
use Rattle.jx_codestream.specs.PackedHeaders.{heads_by, heads_in}
use Rattle.jx_codestream.specs.Parts.{sot_in, after_sot, kind_of, part_header, sot_fault, sod_fault, tables_say}
use Rattle.jx_codestream.proofs.FaultLemmas.{cause_same}
use Rattle.jx_codestream.proofs.PartLemmas.{part_start, part_sot, part_head, part_sod, part_none, part_is, header_same, header_fault_same}
use Rattle.jx_codestream.proofs.SharesLemmas.{none_whole}
use Rattle.jx_codestream.proofs.parts.read_part.Goals as goal

pub returns-in_err-sot-clause-answer : goal.returns-in_err-sot-clause-answer
returns-in_err-sot-clause-answer c =
    let p = err_from_is_err_and c.from_residual.result c.from_residual.ensures.1 in
    rw (p.1, p.2) (part_start c.args.packed c.args.comps (length c.args.counts.now) c.args.bytes.now (tables_say c.args.counts.now c.args.told.now (sot_in c.args.bytes.now c.args.at)) c.args.at c.in_err-sot.field-0.0 c.in_err-sot.ensures.answer)

pub returns-in_err-check_sot-clause-answer : goal.returns-in_err-check_sot-clause-answer
returns-in_err-check_sot-clause-answer c =
    let p = err_from_is_err_and c.from_residual-in_err-check_sot.result c.from_residual-in_err-check_sot.ensures.1 in
    let P : Sot → Type 0 = λ s. IsCause c.in_err-check_sot.field-0.0 (sot_fault (length c.args.counts.now) c.args.bytes.now c.args.at s (tables_say c.args.counts.now c.args.told.now s)) in
    rw (p.1, p.2) (part_sot c.args.packed c.args.comps (length c.args.counts.now) c.args.bytes.now (tables_say c.args.counts.now c.args.told.now (sot_in c.args.bytes.now c.args.at)) c.args.at c.in_err-check_sot.field-0.0
    c.in_ok-sot.ensures.answer.0 (subst P c.in_ok-sot.ensures.answer.1.0 c.in_err-check_sot.ensures.answer))

pub returns-in_err-header-clause-answer : goal.returns-in_err-header-clause-answer
returns-in_err-header-clause-answer c =
    let p = err_from_is_err_and c.from_residual-in_err-header.result c.from_residual-in_err-header.ensures.1 in
    let P : Sot → Type 0 = λ s. sot_fault (length c.args.counts.now) c.args.bytes.now c.args.at s (tables_say c.args.counts.now c.args.told.now s) ≡ None in
    rw (p.1, p.2) (part_head c.args.packed c.args.comps (length c.args.counts.now) c.args.bytes.now (tables_say c.args.counts.now c.args.told.now (sot_in c.args.bytes.now c.args.at)) c.args.at c.in_err-header.field-0.0
    c.in_ok-sot.ensures.answer.0 (subst P c.in_ok-sot.ensures.answer.1.0 c.in_ok-check_sot.ensures.answer.0)
    (cause_same c.in_err-header.field-0.0 (header_fault c.kind_of-kind.result c.args.comps c.args.bytes.now c.in_ok-sot.next) (header_fault (kind_of c.args.packed (sot_in c.args.bytes.now c.args.at)) c.args.comps c.args.bytes.now (after_sot c.args.bytes.now c.args.at))
    (header_fault_same c.args.packed c.args.comps c.args.bytes.now c.args.at c.in_ok-sot.sot c.in_ok-sot.next c.kind_of-kind.result c.in_ok-sot.ensures.answer.1.0 c.in_ok-sot.ensures.answer.1.1 c.kind_of-kind.ensures)
    c.in_err-header.ensures.answer))

pub returns-in_err-end-clause-answer : goal.returns-in_err-end-clause-answer
returns-in_err-end-clause-answer c =
    let p = err_from_is_err_and c.from_residual-in_err-end.result c.from_residual-in_err-end.ensures.1 in
    let P : Sot → Type 0 = λ s. sot_fault (length c.args.counts.now) c.args.bytes.now c.args.at s (tables_say c.args.counts.now c.args.told.now s) ≡ None in
    let head = header_same c.args.packed c.args.comps c.args.bytes.now c.args.at c.in_ok-sot.sot c.in_ok-sot.next c.kind_of-kind.result c.in_ok-header.header c.in_ok-sot.ensures.answer.1.0 c.in_ok-sot.ensures.answer.1.1 c.kind_of-kind.ensures c.in_ok-header.ensures.answer.1 in
    rw (p.1, p.2) (part_sod c.args.packed c.args.comps (length c.args.counts.now) c.args.bytes.now (tables_say c.args.counts.now c.args.told.now (sot_in c.args.bytes.now c.args.at)) c.args.at c.in_err-end.field-0.0
    c.in_ok-sot.ensures.answer.0 (subst P c.in_ok-sot.ensures.answer.1.0 c.in_ok-check_sot.ensures.answer.0)
    (sym (header_fault_same c.args.packed c.args.comps c.args.bytes.now c.args.at c.in_ok-sot.sot c.in_ok-sot.next c.kind_of-kind.result c.in_ok-sot.ensures.answer.1.0 c.in_ok-sot.ensures.answer.1.1 c.kind_of-kind.ensures) ∙ c.in_ok-header.ensures.answer.0)
    (cause_same c.in_err-end.field-0.0 (sod_fault c.args.bytes.now c.args.at c.in_ok-sot.sot c.in_ok-header.header.end) (sod_fault c.args.bytes.now c.args.at (sot_in c.args.bytes.now c.args.at) (part_header c.args.packed c.args.comps c.args.bytes.now c.args.at).end)
    (ap (λ (s : Sot). sod_fault c.args.bytes.now c.args.at s c.in_ok-header.header.end) c.in_ok-sot.ensures.answer.1.0 ∙ ap (λ (h : Header). sod_fault c.args.bytes.now c.args.at (sot_in c.args.bytes.now c.args.at) h.end) head)
    c.in_err-end.ensures.answer))

pub returns-clause-answer : goal.returns-clause-answer
returns-clause-answer c =
    let P : Sot → Type 0 = λ s. sot_fault (length c.args.counts.now) c.args.bytes.now c.args.at s (tables_say c.args.counts.now c.args.told.now s) ≡ None in
    let head = header_same c.args.packed c.args.comps c.args.bytes.now c.args.at c.in_ok-sot.sot c.in_ok-sot.next c.kind_of-kind.result c.in_ok-header.header c.in_ok-sot.ensures.answer.1.0 c.in_ok-sot.ensures.answer.1.1 c.kind_of-kind.ensures c.in_ok-header.ensures.answer.1 in (
      part_none c.args.packed c.args.comps (length c.args.counts.now) c.args.bytes.now (tables_say c.args.counts.now c.args.told.now (sot_in c.args.bytes.now c.args.at)) c.args.at
          c.in_ok-sot.ensures.answer.0 (subst P c.in_ok-sot.ensures.answer.1.0 c.in_ok-check_sot.ensures.answer.0)
          (sym (header_fault_same c.args.packed c.args.comps c.args.bytes.now c.args.at c.in_ok-sot.sot c.in_ok-sot.next c.kind_of-kind.result c.in_ok-sot.ensures.answer.1.0 c.in_ok-sot.ensures.answer.1.1 c.kind_of-kind.ensures) ∙ c.in_ok-header.ensures.answer.0)
          (sym (ap (λ (s : Sot). sod_fault c.args.bytes.now c.args.at s c.in_ok-header.header.end) c.in_ok-sot.ensures.answer.1.0 ∙ ap (λ (h : Header). sod_fault c.args.bytes.now c.args.at (sot_in c.args.bytes.now c.args.at) h.end) head) ∙ c.in_ok-end.ensures.answer.0),
      part_is c.args.packed c.args.comps c.args.bytes.now c.args.at c.in_ok-sot.sot c.in_ok-header.header c.in_ok-rest.rest c.in_ok-end.end c.in_ok-heads.heads c.in_ok-sot.ensures.answer.1.0 head
          c.in_ok-rest.ensures c.in_ok-end.ensures.answer.1.0
          (c.in_ok-heads.ensures ∙ ap heads_by (c.deref.ensures.value ∙ c.in_ok-header.ensures.packed) ∙ ap (λ (n : ℕ). heads_in c.args.comps n c.in_ok-header.header.segments) c.in_ok-sot.ensures.answer.1.1),
    )

-- without PPM and PPT nothing is dropped
pub without_ppt-requires : goal.without_ppt-requires
without_ppt-requires c = λ none.
    none_whole c.args.comps c.in_ok-sot.next c.in_ok-header.header.segments (sym c.in_ok-header.ensures.packed ∙ sym c.deref-2.ensures.value ∙ none)
