use Rattle.std.proofs.Common.{◌≡◌, ◌∙◌, ap, sym, List}
use Rattle.std.specs.Option.{option_or}
use Rattle.std.proofs.lemmas.Result.{err_from_is_err_and}
use Rattle.jx_marker.specs.declared.Segment.{Segment}
use Rattle.jx_codestream.specs.declared.Stream.{Stream}
use Rattle.jx_codestream.specs.declared.headers.Header.{Header}
use Rattle.jx_codestream.specs.First.{stream_from, parameters_fault}
use Rattle.jx_codestream.specs.Tiles.{tiles_of}
use Rattle.jx_codestream.specs.Params.{entries_fault, planes_fault}
use Rattle.jx_codestream.proofs.FaultLemmas.{cause_same}
use Rattle.jx_codestream.proofs.FirstLemmas.{later_tiles, later_body, later_parameters, later_clear, stream_is, parameters_same}
use Rattle.jx_codestream.proofs.reading.read_rest.Goals as goal

pub returns-in_err-count : goal.returns-in_err-count
returns-in_err-count c =
    let p = err_from_is_err_and c.from_residual.result c.from_residual.ensures.1 in
    rw (p.1, p.2) (later_tiles c.args.siz c.args.bytes.now c.args.start c.in_err-count.field-0.0 c.in_err-count.ensures.answer)

pub returns-in_err-header : goal.returns-in_err-header
returns-in_err-header c =
    let p = err_from_is_err_and c.from_residual-in_err-header.result c.from_residual-in_err-header.ensures.1 in
    rw (p.1, p.2) (later_body c.args.siz c.args.bytes.now c.args.start c.count_comps-comps.result c.in_ok-count.count c.in_err-header.field-0.0 c.in_ok-count.ensures.answer.0 c.count_comps-comps.ensures c.in_ok-count.ensures.answer.1.0 c.in_err-header.ensures.answer)

pub returns-in_err-check_tiles : goal.returns-in_err-check_tiles
returns-in_err-check_tiles c =
    let p = err_from_is_err_and c.from_residual-in_err-check_tiles.result c.from_residual-in_err-check_tiles.ensures.1 in
    let stream : Stream = record { siz = c.args.siz; main = c.in_ok-header.header.segments; tiles = c.in_ok-tiles.tiles.items } in
    let is : stream ≡ stream_from c.args.siz c.args.bytes.now c.args.start = stream_is c.args.siz c.args.bytes.now c.args.start c.count_comps-comps.result c.in_ok-count.count c.in_ok-header.header.segments c.in_ok-header.parts.items c.in_ok-tiles.tiles.items
    c.count_comps-comps.ensures c.in_ok-count.ensures.answer.1.0 (ap (λ (h : Header). h.segments) c.in_ok-header.ensures.answer.1.0) c.in_ok-header.ensures.answer.1.1
    (c.in_ok-tiles.ensures ∙ ap (λ (x : List Segment). tiles_of x c.in_ok-header.parts.items c.in_ok-count.count) c.as_slice.ensures) in
    let same = parameters_same c.args.siz c.in_ok-header.header.segments c.as_slice-2.result.now c.in_ok-tiles.tiles.items c.deref.result.now c.count_comps-comps.result c.as_slice-2.ensures c.count_comps-comps.ensures c.deref.ensures.value in
    rw (p.1, p.2) (later_parameters c.args.siz c.args.bytes.now c.args.start c.count_comps-comps.result c.in_ok-count.count stream c.in_err-check_tiles.field-0.0 c.in_ok-count.ensures.answer.0 c.count_comps-comps.ensures c.in_ok-count.ensures.answer.1.0
    c.in_ok-header.ensures.answer.0 is (cause_same c.in_err-check_tiles.field-0.0 (option_or (entries_fault c.as_slice-2.result.now c.count_comps-comps.result c.deref.result.now) (planes_fault c.as_slice-2.result.now c.count_comps-comps.result c.deref.result.now)) (parameters_fault stream) same c.in_err-check_tiles.ensures))

pub returns : goal.returns
returns c =
    let stream : Stream = record { siz = c.args.siz; main = c.in_ok-header.header.segments; tiles = c.in_ok-tiles.tiles.items } in
    let is : stream ≡ stream_from c.args.siz c.args.bytes.now c.args.start = stream_is c.args.siz c.args.bytes.now c.args.start c.count_comps-comps.result c.in_ok-count.count c.in_ok-header.header.segments c.in_ok-header.parts.items c.in_ok-tiles.tiles.items
    c.count_comps-comps.ensures c.in_ok-count.ensures.answer.1.0 (ap (λ (h : Header). h.segments) c.in_ok-header.ensures.answer.1.0) c.in_ok-header.ensures.answer.1.1
    (c.in_ok-tiles.ensures ∙ ap (λ (x : List Segment). tiles_of x c.in_ok-header.parts.items c.in_ok-count.count) c.as_slice.ensures) in
    let same = parameters_same c.args.siz c.in_ok-header.header.segments c.as_slice-2.result.now c.in_ok-tiles.tiles.items c.deref.result.now c.count_comps-comps.result c.as_slice-2.ensures c.count_comps-comps.ensures c.deref.ensures.value in
    let clear = later_clear c.args.siz c.args.bytes.now c.args.start c.count_comps-comps.result c.in_ok-count.count stream c.in_ok-count.ensures.answer.0 c.count_comps-comps.ensures c.in_ok-count.ensures.answer.1.0
    c.in_ok-header.ensures.answer.0 is (sym same ∙ c.in_ok-check_tiles.ensures.0) in
    rw c.new.ensures (clear, is)
