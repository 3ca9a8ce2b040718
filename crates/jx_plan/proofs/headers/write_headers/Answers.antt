use Rattle.std.proofs.Common.{◌≡◌, ◌∙◌, List, ap, length, map, sym}
use Rattle.jx_marker.specs.declared.CompSize.{CompSize}
use Rattle.jx_marker.specs.declared.Segment.{Segment}
use Rattle.jx_marker.specs.declared.Siz.{Siz}
use Rattle.jx_options.specs.Wanted.{Wanted}
use Rattle.jx_options.specs.declared.RsizChoice.{RsizChoice}
use Rattle.jx_plan.specs.Changes.{main_order}
use Rattle.jx_plan.specs.Headers.{main_written, rsiz_written, tile_written, with_layers}
use Rattle.jx_plan.proofs.WrittenLemmas.{stream_is}
use Rattle.jx_plan.proofs.headers.write_headers.Goals as goal

pub returns : goal.returns
returns c =
    let a = with_layers c.args.options.now c.args.layers in
    let s = c.args.stream.now in
    let count : length c.as_slice.result.now ≡ length s.siz.comps = ap (λ (xs : List CompSize). length xs) c.as_slice.ensures in
    let main : c.new.result ≡ main_written a (length s.siz.comps) s.main =
    c.new.ensures ∙ c.in_ok-main.ensures ∙ ap (λ (xs : List Segment). main_written a (length c.as_slice.result.now) xs) c.as_slice-2.ensures
    ∙ ap (λ n. main_written a n s.main) count in
    let tiles : c.new-2.result ≡ map (tile_written a (length s.siz.comps) (main_order s.main) (main_order c.new.result)) s.tiles =
    c.new-2.ensures ∙ c.in_ok-tiles.ensures
    ∙ ap (λ (xs : List Segment). map (tile_written a (length c.as_slice.result.now) (main_order s.main) (main_order xs)) s.tiles) (c.deref.ensures.value ∙ sym c.new.ensures)
    ∙ ap (λ n. map (tile_written a n (main_order s.main) (main_order c.new.result)) s.tiles) count in
    let P : RsizChoice → Siz = λ choice. record s.siz { rsiz = rsiz_written choice s.siz.rsiz } in
    let asked : c.options.inside.rsiz ≡ c.args.options.now.rsiz = ap (λ (w : Wanted). w.rsiz) c.options.view_is in
    stream_is a s c.in_ok-siz.siz c.new.result c.new-2.result (c.in_ok-siz.ensures ∙ ap P asked) main tiles
