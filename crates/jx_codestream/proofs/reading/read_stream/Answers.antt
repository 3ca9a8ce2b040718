use Rattle.std.proofs.Common.{◌≡◌, Ok, arith}
use Rattle.std.proofs.lemmas.Result.{err_from_is_err_and}
use Rattle.jx_marker.proofs.ReadLemmas.{bytes_are}
use Rattle.jx_codestream.proofs.FirstLemmas.{first_front, first_later, first_clear}
use Rattle.jx_codestream.specs.First.{stream_in}
use Rattle.jx_codestream.specs.declared.Stream.{Stream}
use Rattle.jx_codestream.proofs.UniqueLemmas.{read_only, read_spelled, refused_by, answer_read}
use Rattle.jx_codestream.proofs.ViolatedLemmas.{answer_first, answer_only}
use Rattle.jx_codestream.proofs.reading.read_stream.Goals as goal

pub returns-in_err-siz-clause-exact : goal.returns-in_err-siz-clause-exact
returns-in_err-siz-clause-exact c =
    let p = err_from_is_err_and c.from_residual.result c.from_residual.ensures.1 in
    rw (p.1, p.2) (first_front c.args.bytes.now c.in_err-siz.field-0.0 c.in_err-siz.ensures.answer)

pub returns-in_err-siz-clause-unspelled : goal.returns-in_err-siz-clause-unspelled
returns-in_err-siz-clause-unspelled c =
    let p = err_from_is_err_and c.from_residual.result c.from_residual.ensures.1 in
    refused_by c.args.bytes.now p.0 c.in_err-siz.field-0.0 c.from_residual.result p.1 p.2 (first_front c.args.bytes.now c.in_err-siz.field-0.0 c.in_err-siz.ensures.answer)

pub returns-in_err-stream-clause-exact : goal.returns-in_err-stream-clause-exact
returns-in_err-stream-clause-exact c =
    let p = err_from_is_err_and c.from_residual-in_err-stream.result c.from_residual-in_err-stream.ensures.1 in
    rw (p.1, p.2) (first_later c.args.bytes.now c.in_ok-siz.siz c.in_ok-siz.start c.in_err-stream.field-0.0 c.in_ok-siz.ensures.answer.0 c.in_ok-siz.ensures.answer.1.0 c.in_ok-siz.ensures.answer.1.1 c.in_err-stream.ensures)

pub returns-in_err-stream-clause-unspelled : goal.returns-in_err-stream-clause-unspelled
returns-in_err-stream-clause-unspelled c =
    let p = err_from_is_err_and c.from_residual-in_err-stream.result c.from_residual-in_err-stream.ensures.1 in
    refused_by c.args.bytes.now p.0 c.in_err-stream.field-0.0 c.from_residual-in_err-stream.result p.1 p.2
    (first_later c.args.bytes.now c.in_ok-siz.siz c.in_ok-siz.start c.in_err-stream.field-0.0 c.in_ok-siz.ensures.answer.0 c.in_ok-siz.ensures.answer.1.0 c.in_ok-siz.ensures.answer.1.1 c.in_err-stream.ensures)

pub returns-clause-exact : goal.returns-clause-exact
returns-clause-exact c =
    first_clear c.args.bytes.now c.in_ok-siz.siz c.in_ok-siz.start c.in_ok-stream.stream c.in_ok-siz.ensures.answer.0 c.in_ok-siz.ensures.answer.1.0 c.in_ok-siz.ensures.answer.1.1 c.in_ok-stream.ensures.0 c.in_ok-stream.ensures.1

pub returns-clause-read : goal.returns-clause-read
returns-clause-read c =
    let p = first_clear c.args.bytes.now c.in_ok-siz.siz c.in_ok-siz.start c.in_ok-stream.stream c.in_ok-siz.ensures.answer.0 c.in_ok-siz.ensures.answer.1.0 c.in_ok-siz.ensures.answer.1.1 c.in_ok-stream.ensures.0 c.in_ok-stream.ensures.1 in
    read_spelled c.args.bytes.now c.in_ok-stream.stream (bytes_are c.args.bytes.now (λ i. omega (arith, c.type_inv.bytes i))) p.0 p.1

pub returns-clause-only : goal.returns-clause-only
returns-clause-only c =
    let p = first_clear c.args.bytes.now c.in_ok-siz.siz c.in_ok-siz.start c.in_ok-stream.stream c.in_ok-siz.ensures.answer.0 c.in_ok-siz.ensures.answer.1.0 c.in_ok-siz.ensures.answer.1.1 c.in_ok-stream.ensures.0 c.in_ok-stream.ensures.1 in
    read_only c.args.bytes.now c.in_ok-stream.stream p.1

pub returns-in_err-siz-clause-first : goal.returns-in_err-siz-clause-first
returns-in_err-siz-clause-first c =
    answer_first c.args.bytes.now c.from_residual.result (λ (s : Stream). s ≡ stream_in c.args.bytes.now) (bytes_are c.args.bytes.now (λ i. omega (arith, c.type_inv.bytes i))) (returns-in_err-siz-clause-exact c)

pub returns-in_err-siz-clause-first_only : goal.returns-in_err-siz-clause-first_only
returns-in_err-siz-clause-first_only c =
    answer_only c.args.bytes.now c.from_residual.result (λ (s : Stream). s ≡ stream_in c.args.bytes.now) (returns-in_err-siz-clause-exact c)

pub returns-in_err-stream-clause-first : goal.returns-in_err-stream-clause-first
returns-in_err-stream-clause-first c =
    answer_first c.args.bytes.now c.from_residual-in_err-stream.result (λ (s : Stream). s ≡ stream_in c.args.bytes.now) (bytes_are c.args.bytes.now (λ i. omega (arith, c.type_inv.bytes i)))
    (returns-in_err-stream-clause-exact c)

pub returns-in_err-stream-clause-first_only : goal.returns-in_err-stream-clause-first_only
returns-in_err-stream-clause-first_only c =
    answer_only c.args.bytes.now c.from_residual-in_err-stream.result (λ (s : Stream). s ≡ stream_in c.args.bytes.now) (returns-in_err-stream-clause-exact c)

pub returns-clause-first_only : goal.returns-clause-first_only
returns-clause-first_only c =
    answer_only c.args.bytes.now (Ok c.in_ok-stream.stream) (λ (s : Stream). s ≡ stream_in c.args.bytes.now) (returns-clause-exact c)

pub returns-in_err-siz-clause-memory : goal.returns-in_err-siz-clause-memory
returns-in_err-siz-clause-memory c = answer_read c.args.bytes.now c.from_residual.result (returns-in_err-siz-clause-exact c)

pub returns-in_err-stream-clause-memory : goal.returns-in_err-stream-clause-memory
returns-in_err-stream-clause-memory c = answer_read c.args.bytes.now c.from_residual-in_err-stream.result (returns-in_err-stream-clause-exact c)

pub returns-clause-memory : goal.returns-clause-memory
returns-clause-memory c = answer_read c.args.bytes.now (Ok c.in_ok-stream.stream) (returns-clause-exact c)
