use Rattle.std.proofs.Common.{◌≡◌, ◌+◌, ◌∙◌, ap, arith, get_or, sym}
use Rattle.std.proofs.lemmas.Bool.Decides.{nat_tests}
use Rattle.byteorder.specs.Endian.{big_from}
use Rattle.jx_marker.specs.Codes.{SOT}
use Rattle.jx_marker.specs.declared.Segment.TheVariants as segment
use Rattle.jx_marker.specs.Segments.{value_of}
use Rattle.jx_marker.specs.Values.{index_at, quant_at, shape_at}
use Rattle.jx_marker.proofs.ClearLemmas.{clear_siz, clear_cod, clear_coc, clear_rgn, clear_ppm, clear_ppt, sot_left}
use Rattle.jx_marker.proofs.read.value_of.Goals as goal

pub read_siz-requires : goal.read_siz-requires
read_siz-requires c =
    let h = rw c.in-81.is at c.requires.rules in
    let siz = clear_siz c.args.comps c.args.body.now h in omega arith

pub read_cod-requires-clause-room : goal.read_cod-requires-clause-room
read_cod-requires-clause-room c =
    let h = rw c.in-82.is at c.requires.rules in
    let cod = clear_cod c.args.comps c.args.body.now h in
    omega (arith, cod.shape.size)

pub read_cod-requires-clause-xcb : goal.read_cod-requires-clause-xcb
read_cod-requires-clause-xcb c =
    let h = rw c.in-82.is at c.requires.rules in
    (clear_cod c.args.comps c.args.body.now h).shape.xcb

pub read_cod-requires-clause-ycb : goal.read_cod-requires-clause-ycb
read_cod-requires-clause-ycb c =
    let h = rw c.in-82.is at c.requires.rules in
    (clear_cod c.args.comps c.args.body.now h).shape.ycb

pub read_shape-requires-clause-room : goal.read_shape-requires-clause-room
read_shape-requires-clause-room c =
    let h = rw c.in-83.is at c.requires.rules in
    let coc = clear_coc c.args.comps c.args.body.now h in
    omega (arith, coc.shape.size, c.index_size-in-83.ensures.value)

pub read_shape-requires-clause-xcb : goal.read_shape-requires-clause-xcb
read_shape-requires-clause-xcb c =
    let h = rw c.in-83.is at c.requires.rules in
    rw c.index_size-in-83.ensures.value (clear_coc c.args.comps c.args.body.now h).shape.xcb

pub read_shape-requires-clause-ycb : goal.read_shape-requires-clause-ycb
read_shape-requires-clause-ycb c =
    let h = rw c.in-83.is at c.requires.rules in
    rw c.index_size-in-83.ensures.value (clear_coc c.args.comps c.args.body.now h).shape.ycb

pub bounds-body-index_size : goal.bounds-body-index_size
bounds-body-index_size c =
    let h = rw c.in-94.is at c.requires.rules in
    let rgn = clear_rgn c.args.comps c.args.body.now h in
    omega (arith, rgn.size, c.index_size-in-94-2.ensures.value)

pub read_packed-requires : goal.read_packed-requires
read_packed-requires c = clear_ppm c.args.comps c.args.body.now (rw c.in-96.is at c.requires.rules)

pub read_packed-requires-in-97 : goal.read_packed-requires-in-97
read_packed-requires-in-97 c = clear_ppt c.args.comps c.args.body.now (rw c.in-97.is at c.requires.rules)

pub read_sot-requires : goal.read_sot-requires
read_sot-requires c =
    let is : c.args.code ≡ SOT = sot_left c.args.code c.requires.marker
    (grind (arith, nat_tests, c.in_default)) (grind (arith, nat_tests, c.in_default)) (grind (arith, nat_tests, c.in_default))
    (grind (arith, nat_tests, c.in_default)) (grind (arith, nat_tests, c.in_default)) (grind (arith, nat_tests, c.in_default))
    (grind (arith, nat_tests, c.in_default)) (grind (arith, nat_tests, c.in_default)) (grind (arith, nat_tests, c.in_default))
    (grind (arith, nat_tests, c.in_default)) (grind (arith, nat_tests, c.in_default)) (grind (arith, nat_tests, c.in_default))
    (grind (arith, nat_tests, c.in_default)) (grind (arith, nat_tests, c.in_default)) in
    omega (arith, c.requires.sot is)

pub returns-in_ok-read_siz-in-81 : goal.returns-in_ok-read_siz-in-81
returns-in_ok-read_siz-in-81 c = ap segment.Siz c.in_ok-read_siz-in-81.ensures ∙ sym (ap (λ k. value_of c.args.comps k c.args.body.now) c.in-81.is)

pub returns-in_ok-read_cod-in-82 : goal.returns-in_ok-read_cod-in-82
returns-in_ok-read_cod-in-82 c = ap segment.Cod c.in_ok-read_cod-in-82.ensures ∙ sym (ap (λ k. value_of c.args.comps k c.args.body.now) c.in-82.is)

pub returns-in_ok-read_shape-in-83 : goal.returns-in_ok-read_shape-in-83
returns-in_ok-read_shape-in-83 c =
    let comp = c.narrow_at.ensures ∙ ap (λ s. big_from 0 s c.args.body.now) c.index_size.ensures.value in
    let rest = c.in_ok-read_shape-in-83.ensures ∙ ap (λ s. shape_at (1 + s) c.args.body.now) c.index_size-in-83.ensures.value in
    ap (λ k. segment.Coc k c.in_ok-read_shape-in-83.field-0) comp ∙ (ap (λ r. segment.Coc (index_at c.args.comps 0 c.args.body.now) r) rest
    ∙ sym (ap (λ k. value_of c.args.comps k c.args.body.now) c.in-83.is))

pub returns-in_ok-read_quant-in-92 : goal.returns-in_ok-read_quant-in-92
returns-in_ok-read_quant-in-92 c = ap segment.Qcd c.in_ok-read_quant-in-92.ensures ∙ sym (ap (λ k. value_of c.args.comps k c.args.body.now) c.in-92.is)

pub returns-in_ok-read_quant-in-93 : goal.returns-in_ok-read_quant-in-93
returns-in_ok-read_quant-in-93 c =
    let comp = c.narrow_at-in-93.ensures ∙ ap (λ s. big_from 0 s c.args.body.now) c.index_size-in-93.ensures.value in
    let rest = c.in_ok-read_quant-in-93.ensures ∙ ap (λ s. quant_at s c.args.body.now) c.index_size-in-93-2.ensures.value in
    ap (λ k. segment.Qcc k c.in_ok-read_quant-in-93.field-0) comp ∙ (ap (λ r. segment.Qcc (index_at c.args.comps 0 c.args.body.now) r) rest
    ∙ sym (ap (λ k. value_of c.args.comps k c.args.body.now) c.in-93.is))

pub returns-in-94 : goal.returns-in-94
returns-in-94 c =
    let comp = c.narrow_at-in-94.ensures ∙ ap (λ s. big_from 0 s c.args.body.now) c.index_size-in-94.ensures.value in
    let shift = ap (λ s. get_or c.args.body.now (1 + s) 0) c.index_size-in-94-2.ensures.value in
    ap (λ k. segment.Rgn k (get_or c.args.body.now (1 + c.index_size-in-94-2.result) 0)) comp
    ∙ (ap (λ r. segment.Rgn (index_at c.args.comps 0 c.args.body.now) r) shift ∙ sym (ap (λ k. value_of c.args.comps k c.args.body.now) c.in-94.is))

pub returns-in_ok-read_poc-in-95 : goal.returns-in_ok-read_poc-in-95
returns-in_ok-read_poc-in-95 c = ap segment.Poc c.in_ok-read_poc-in-95.ensures ∙ sym (ap (λ k. value_of c.args.comps k c.args.body.now) c.in-95.is)

pub returns-in_ok-bytes_of-in-99 : goal.returns-in_ok-bytes_of-in-99
returns-in_ok-bytes_of-in-99 c = ap segment.Crg c.in_ok-bytes_of-in-99.ensures ∙ sym (ap (λ k. value_of c.args.comps k c.args.body.now) c.in-99.is)

pub returns-in_ok-bytes_of-in-100 : goal.returns-in_ok-bytes_of-in-100
returns-in_ok-bytes_of-in-100 c = ap segment.Com c.in_ok-bytes_of-in-100.ensures ∙ sym (ap (λ k. value_of c.args.comps k c.args.body.now) c.in-100.is)

pub returns-in_ok-bytes_of-in-88 : goal.returns-in_ok-bytes_of-in-88
returns-in_ok-bytes_of-in-88 c = ap segment.Plt c.in_ok-bytes_of-in-88.ensures ∙ sym (ap (λ k. value_of c.args.comps k c.args.body.now) c.in-88.is)

pub returns-in_ok-bytes_of-in-87 : goal.returns-in_ok-bytes_of-in-87
returns-in_ok-bytes_of-in-87 c = ap segment.Plm c.in_ok-bytes_of-in-87.ensures ∙ sym (ap (λ k. value_of c.args.comps k c.args.body.now) c.in-87.is)

pub returns-in_ok-bytes_of-in-85 : goal.returns-in_ok-bytes_of-in-85
returns-in_ok-bytes_of-in-85 c = ap segment.Tlm c.in_ok-bytes_of-in-85.ensures ∙ sym (ap (λ k. value_of c.args.comps k c.args.body.now) c.in-85.is)

pub returns-in_default : goal.returns-in_default
returns-in_default c =
    let is : c.args.code ≡ SOT = sot_left c.args.code c.requires.marker
    (grind (arith, nat_tests, c.in_default)) (grind (arith, nat_tests, c.in_default)) (grind (arith, nat_tests, c.in_default))
    (grind (arith, nat_tests, c.in_default)) (grind (arith, nat_tests, c.in_default)) (grind (arith, nat_tests, c.in_default))
    (grind (arith, nat_tests, c.in_default)) (grind (arith, nat_tests, c.in_default)) (grind (arith, nat_tests, c.in_default))
    (grind (arith, nat_tests, c.in_default)) (grind (arith, nat_tests, c.in_default)) (grind (arith, nat_tests, c.in_default))
    (grind (arith, nat_tests, c.in_default)) (grind (arith, nat_tests, c.in_default)) in
    ap segment.Sot c.read_sot.ensures ∙ sym (ap (λ k. value_of c.args.comps k c.args.body.now) is)
