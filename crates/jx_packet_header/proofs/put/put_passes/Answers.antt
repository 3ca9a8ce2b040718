use Rattle.std.proofs.Common.{◌<◌, ◌-◌, ◌++◌, ◌∙◌, ℕ, List, Bool, sym, ap, arith}
use Rattle.std.proofs.lemmas.Result.{IfOk-equal}
use Rattle.jx_tagtree.specs.Header.{low_bits}
use Rattle.jx_packet_header.specs.Words.{pass_word}
use Rattle.jx_packet_header.proofs.PutLemmas.{put_one, put_two, put_few, put_some, put_many}
use Rattle.jx_packet_header.proofs.put.put_passes.Goals as goal

pub returns-then-passes-eq1 : goal.returns-then-passes-eq1
returns-then-passes-eq1 c =
    IfOk-equal c.put_number.result c.put_number.new.bits (c.args.bits.now ++ low_bits 1 0) (c.args.bits.now ++ pass_word c.args.passes) c.put_number.ensures
    (ap (λ (l : List Bool). c.args.bits.now ++ l) put_one ∙ ap (λ (n : ℕ). c.args.bits.now ++ pass_word n) (sym c.if-passes-eq1.true))

pub returns-then-passes-eq2 : goal.returns-then-passes-eq2
returns-then-passes-eq2 c =
    IfOk-equal c.put_number-then-passes-eq2.result c.put_number-then-passes-eq2.new.bits (c.args.bits.now ++ low_bits 2 2) (c.args.bits.now ++ pass_word c.args.passes) c.put_number-then-passes-eq2.ensures
    (ap (λ (l : List Bool). c.args.bits.now ++ l) put_two ∙ ap (λ (n : ℕ). c.args.bits.now ++ pass_word n) (sym c.if-passes-eq2.true))

pub returns-then-passes-le5 : goal.returns-then-passes-le5
returns-then-passes-le5 c =
    let ge : 2 < c.args.passes = omega (arith, c.if-passes-eq1.false, c.if-passes-eq2.false, c.requires) in
    IfOk-equal c.put_number-then-passes-le5.result c.put_number-then-passes-le5.new.bits (c.put_ones.new.bits ++ low_bits 2 (c.args.passes - 3)) (c.args.bits.now ++ pass_word c.args.passes) c.put_number-then-passes-le5.ensures
    (put_few c.args.passes c.args.bits.now c.put_ones.new.bits ge c.if-passes-le5.true c.in_ok-put_ones.ensures)

pub returns-then-passes-le36 : goal.returns-then-passes-le36
returns-then-passes-le36 c =
    IfOk-equal c.put_number-then-passes-le36.result c.put_number-then-passes-le36.new.bits (c.put_ones-then-passes-le36.new.bits ++ low_bits 5 (c.args.passes - 6)) (c.args.bits.now ++ pass_word c.args.passes) c.put_number-then-passes-le36.ensures
    (put_some c.args.passes c.args.bits.now c.put_ones-then-passes-le36.new.bits c.if-passes-le5.false c.if-passes-le36.true c.in_ok-put_ones-2.ensures)

pub returns : goal.returns
returns c =
    IfOk-equal c.put_number-2.result c.put_number-2.new.bits (c.put_ones-2.new.bits ++ low_bits 7 (c.args.passes - 37)) (c.args.bits.now ++ pass_word c.args.passes) c.put_number-2.ensures
    (put_many c.args.passes c.args.bits.now c.put_ones-2.new.bits c.if-passes-le36.false c.in_ok-put_ones-3.ensures)
