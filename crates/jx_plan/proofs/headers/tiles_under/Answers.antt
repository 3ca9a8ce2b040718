use Rattle.std.proofs.Common.{◌≡◌, ◌∙◌, ap, List}
use Rattle.std.proofs.lemmas.Result.{IfOk-weaker}
use Rattle.jx_marker.specs.declared.Segment.{Segment}
use Rattle.jx_plan.specs.Changes.{main_order}
use Rattle.jx_plan.specs.Headers.{with_layers}
use Rattle.jx_plan.proofs.WrittenLemmas.{tiles_same}
use Rattle.jx_plan.proofs.headers.tiles_under.Goals as goal

pub returns : goal.returns
returns c =
    let read : c.in_ok-read.read ≡ main_order c.args.stream.now.main = c.in_ok-read.ensures ∙ ap (λ (xs : List Segment). main_order xs) c.as_slice.ensures in
    IfOk-weaker c.write_tiles.result _ _
    (λ copies h. h ∙ tiles_same (with_layers c.args.options.now c.args.layers) c.args.comps _ _ _ _ _ _ read c.in_ok-written.ensures c.as_slice-2.ensures)
    c.write_tiles.ensures
