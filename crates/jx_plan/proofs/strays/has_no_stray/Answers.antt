use Rattle.std.proofs.Common.{◌≡◌, ◌∙◌, ap, arith, sym}
use Rattle.std.proofs.lemmas.Result.{IfOk-weaker}
use Rattle.jx_codestream.specs.declared.Stream.{Stream}
use Rattle.jx_codestream.specs.First.{tile_number}
use Rattle.jx_plan.specs.Headers.{with_layers}
use Rattle.jx_plan.specs.Plan.{headers_with}
use Rattle.jx_plan.proofs.StrayLemmas.{short_decides}
use Rattle.jx_plan.proofs.StreamLemmas.{tile_number_stays}
use Rattle.jx_plan.proofs.strays.has_no_stray.Goals as goal

pub is_whole-requires-clause-tile : goal.is_whole-requires-clause-tile
is_whole-requires-clause-tile c =
    let same : tile_number c.args.written.now.siz ≡ tile_number (headers_with c.args.options.now c.args.layers c.args.stream.now).siz = ap (λ (x : Stream). tile_number x.siz) c.requires.written in
    omega (arith, same, tile_number_stays (with_layers c.args.options.now c.args.layers) c.args.stream.now, c.requires.tile)

pub returns : goal.returns
returns c =
    IfOk-weaker c.is_whole.result _ _
    (λ b d. short_decides c.args.stream.now c.args.options.now c.args.layers c.args.tile c.args.written.now b c.requires.written (sym c.in_ok-long.ensures ∙ c.if-long.false) d)
    c.is_whole.ensures
