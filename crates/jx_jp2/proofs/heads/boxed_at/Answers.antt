use Rattle.std.proofs.Common.{◌≡◌, ◌∙◌, ap, arith}
use Rattle.jx_jp2.specs.Heads.{form_of, head_size, lbox}
use Rattle.jx_jp2.proofs.HeadLemmas.{sound}
use Rattle.jx_jp2.proofs.heads.boxed_at.Goals as goal

pub lbox-requires : goal.lbox-requires
lbox-requires c =
    let s = sound c.args.bytes.now c.args.is_top c.args.stop c.args.at c.requires.within c.requires.sound in
    omega (arith, s.head)

pub length_at-requires-clause-head : goal.length_at-requires-clause-head
length_at-requires-clause-head c =
    let s = sound c.args.bytes.now c.args.is_top c.args.stop c.args.at c.requires.within c.requires.sound in
    omega (arith, s.head)

pub length_at-requires-clause-long : goal.length_at-requires-clause-long
length_at-requires-clause-long c = λ (is : lbox c.args.bytes.now c.args.at ≡ 1). (
    let s = sound c.args.bytes.now c.args.is_top c.args.stop c.args.at c.requires.within c.requires.sound in
    omega (arith, s.long is)
    )

pub overflow_cast-result-4 : goal.overflow_cast-result-4
overflow_cast-result-4 c =
    let s = sound c.args.bytes.now c.args.is_top c.args.stop c.args.at c.requires.within c.requires.sound in
    omega (arith, s.ends, c.length_at.ensures)

pub overflow_add-result-2 : goal.overflow_add-result-2
overflow_add-result-2 c =
    let s = sound c.args.bytes.now c.args.is_top c.args.stop c.args.at c.requires.within c.requires.sound in
    omega (arith, s.ends, c.length_at.ensures)

pub overflow_add-result : goal.overflow_add-result
overflow_add-result c =
    let s = sound c.args.bytes.now c.args.is_top c.args.stop c.args.at c.requires.within c.requires.sound in
    let is : c.head_size.result ≡ head_size (form_of (lbox c.args.bytes.now c.args.at)) = c.head_size.ensures ∙ ap head_size (c.form_of-form.ensures ∙ ap form_of c.lbox.ensures) in
    omega (arith, s.size, s.ends, is)
