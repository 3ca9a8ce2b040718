use Rattle.std.proofs.Common.{arith, ◌≡◌, ◌==◌, false, ◌∙◌, sym, ap}
use Rattle.std.proofs.lemmas.Bool.Decides.{nat_tests}
use Rattle.jx_messages.specs.Rules.{packet_words}
use Rattle.jx_messages.proofs.rules.packet_text.Goals as goal

pub returns-in-26 : goal.returns-in-26
unfolding packet_words
returns-in-26 c = c.row.ensures ∙ sym (ap packet_words c.in-26.is)

pub returns-in-27 : goal.returns-in-27
unfolding packet_words
returns-in-27 c = c.row-in-27.ensures ∙ sym (ap packet_words c.in-27.is)

pub returns-in-28 : goal.returns-in-28
unfolding packet_words
returns-in-28 c = c.row-in-28.ensures ∙ sym (ap packet_words c.in-28.is)

pub returns-in-29 : goal.returns-in-29
unfolding packet_words
returns-in-29 c = c.row-in-29.ensures ∙ sym (ap packet_words c.in-29.is)

pub returns-in-30 : goal.returns-in-30
unfolding packet_words
returns-in-30 c = c.row-in-30.ensures ∙ sym (ap packet_words c.in-30.is)

pub returns-in_default : goal.returns-in_default
unfolding packet_words
returns-in_default c =
    let not_26 : (c.args.number == 26) ≡ false = grind (arith, nat_tests, c.in_default) in
    let not_27 : (c.args.number == 27) ≡ false = grind (arith, nat_tests, c.in_default) in
    let not_28 : (c.args.number == 28) ≡ false = grind (arith, nat_tests, c.in_default) in
    let not_29 : (c.args.number == 29) ≡ false = grind (arith, nat_tests, c.in_default) in
    let not_30 : (c.args.number == 30) ≡ false = grind (arith, nat_tests, c.in_default) in
    rw (not_26, not_27, not_28, not_29, not_30) c.row-in_default.ensures
