use Rattle.std.proofs.Common.{◌≡◌, ◌∙◌, [], ◌++◌, append-nil}
use Rattle.jx_jp2.specs.Wrapped.{wrapped}
use Rattle.jx_transcode.proofs.AroundLemmas.{pieces_wrapped}
use Rattle.jx_transcode.proofs.around.write_form.Goals as goal

pub returns-in-Keep-clause-ok : goal.returns-in-Keep-clause-ok
returns-in-Keep-clause-ok g c =
    let same : c.around.result.0.now ++ (c.bytes.result.now ++ (c.args.out.now ++ (c.around.result.1.now ++ []))) ≡ wrapped c.args.input.now c.args.boxed.now c.args.out.now =
    pieces_wrapped c.args.input.now c.args.boxed.now c.args.out.now _ _ _ c.around.ensures.front (c.bytes.ensures.same ∙ c.head_for-head.ensures) c.around.ensures.back in
    rw (c.in-Keep.is, ← same) c.write_pieces.ensures.ok

pub returns-in-Keep-clause-count : goal.returns-in-Keep-clause-count
returns-in-Keep-clause-count g c =
    let same : c.around.result.0.now ++ (c.bytes.result.now ++ (c.args.out.now ++ (c.around.result.1.now ++ []))) ≡ wrapped c.args.input.now c.args.boxed.now c.args.out.now =
    pieces_wrapped c.args.input.now c.args.boxed.now c.args.out.now _ _ _ c.around.ensures.front (c.bytes.ensures.same ∙ c.head_for-head.ensures) c.around.ensures.back in
    rw (c.in-Keep.is, ← same) c.write_pieces.ensures.count

pub returns-in-Keep-clause-err : goal.returns-in-Keep-clause-err
returns-in-Keep-clause-err g c =
    let same : c.around.result.0.now ++ (c.bytes.result.now ++ (c.args.out.now ++ (c.around.result.1.now ++ []))) ≡ wrapped c.args.input.now c.args.boxed.now c.args.out.now =
    pieces_wrapped c.args.input.now c.args.boxed.now c.args.out.now _ _ _ c.around.ensures.front (c.bytes.ensures.same ∙ c.head_for-head.ensures) c.around.ensures.back in
    rw (c.in-Keep.is, ← same) c.write_pieces.ensures.err

pub returns-in-Codestream-clause-err : goal.returns-in-Codestream-clause-err
returns-in-Codestream-clause-err g c =
    let same : c.args.out.now ++ [] ≡ c.args.out.now = append-nil c.args.out.now in
    rw c.in-Codestream.is (rw same at c.write_pieces-in-Codestream.ensures.err)
