use Rattle.std.proofs.Common.{◌≤◌, length, rules}
use Rattle.jx_transcode.proofs.source.content_of.Goals as goal

pub slice_bounds-result-count : goal.slice_bounds-result-count
slice_bounds-result-count c = c.codestream_lies_within.ensures.content c.args.input.now c.args.boxed.now c.requires

pub slice_bounds-result-start : goal.slice_bounds-result-start
slice_bounds-result-start c =
    let span : c.args.boxed.now.from ≤ c.args.boxed.now.to = c.codestream_lies_within.ensures.content c.args.input.now c.args.boxed.now c.requires in
    let end : c.args.boxed.now.to ≤ length c.args.input.now = c.codestream_lies_within.ensures.end c.args.input.now c.args.boxed.now c.requires in
    search rules

pub slice_bounds-result-end : goal.slice_bounds-result-end
slice_bounds-result-end c =
    let span : c.args.boxed.now.from ≤ c.args.boxed.now.to = c.codestream_lies_within.ensures.content c.args.input.now c.args.boxed.now c.requires in
    let end : c.args.boxed.now.to ≤ length c.args.input.now = c.codestream_lies_within.ensures.end c.args.input.now c.args.boxed.now c.requires in
    search rules
