use Rattle.std.proofs.Common.{◌∙◌, ap, not}
use Rattle.std.proofs.lemmas.Result.{err_from_is_err_and}
use Rattle.jx_codestream.specs.declared.headers.Header.{Header}
use Rattle.jx_codestream.specs.PackedHeaders.{packed_from}
use Rattle.jx_codestream.proofs.FirstLemmas.{main_early, main_lacks, main_clear, lacks_by_table}
use Rattle.jx_codestream.proofs.reading.read_main.Goals as goal

pub returns-in_err-main-clause-answer : goal.returns-in_err-main-clause-answer
returns-in_err-main-clause-answer c =
    let p = err_from_is_err_and c.from_residual.result c.from_residual.ensures.1 in
    rw (p.1, p.2) (main_early c.args.comps c.args.bytes.now c.args.start c.in_err-main.field-0.0 c.in_err-main.ensures.answer)

pub returns-then-not-has_defaults-clause-answer : goal.returns-then-not-has_defaults-clause-answer
returns-then-not-has_defaults-clause-answer c =
    rw c.violated.ensures (main_lacks c.args.comps c.args.bytes.now c.args.start c.in_ok-main.main c.in_ok-main.ensures.answer.0 c.in_ok-main.ensures.answer.1
    (lacks_by_table c.args.comps c.args.start c.in_ok-main.main.segments c.read_header.new.seen c.has_defaults.result c.in_ok-main.ensures.marks (c.read_header.auto.seen ∙ c.requires.slots) c.has_defaults.ensures ∙ ap not c.if-not-has_defaults.true))

pub returns-clause-answer : goal.returns-clause-answer
returns-clause-answer c = (
  main_clear c.args.comps c.args.bytes.now c.args.start c.in_ok-main.main c.in_ok-main.ensures.answer.0 c.in_ok-main.ensures.answer.1
      (lacks_by_table c.args.comps c.args.start c.in_ok-main.main.segments c.read_header.new.seen c.has_defaults.result c.in_ok-main.ensures.marks (c.read_header.auto.seen ∙ c.requires.slots) c.has_defaults.ensures ∙ ap not c.if-not-has_defaults.false),
  c.in_ok-main.ensures.answer.1,
)

pub returns-clause-packed : goal.returns-clause-packed
returns-clause-packed c =
    c.in_ok-main.ensures.packed ∙ ap (λ (h : Header). packed_from c.args.comps c.args.start h.segments) c.in_ok-main.ensures.answer.1
