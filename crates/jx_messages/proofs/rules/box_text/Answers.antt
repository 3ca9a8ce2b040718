use Rattle.std.proofs.Common.{arith, ◌≡◌, ◌==◌, false, ◌∙◌, sym, ap}
use Rattle.std.proofs.lemmas.Bool.Decides.{nat_tests}
use Rattle.jx_messages.specs.Rules.{box_words}
use Rattle.jx_messages.proofs.rules.box_text.Goals as goal

pub returns-in-32 : goal.returns-in-32
unfolding box_words
returns-in-32 c = c.row.ensures ∙ sym (ap box_words c.in-32.is)

pub returns-in-33 : goal.returns-in-33
unfolding box_words
returns-in-33 c = c.row-in-33.ensures ∙ sym (ap box_words c.in-33.is)

pub returns-in-34 : goal.returns-in-34
unfolding box_words
returns-in-34 c = c.row-in-34.ensures ∙ sym (ap box_words c.in-34.is)

pub returns-in-35 : goal.returns-in-35
unfolding box_words
returns-in-35 c = c.row-in-35.ensures ∙ sym (ap box_words c.in-35.is)

pub returns-in-36 : goal.returns-in-36
unfolding box_words
returns-in-36 c = c.row-in-36.ensures ∙ sym (ap box_words c.in-36.is)

pub returns-in_default : goal.returns-in_default
unfolding box_words
returns-in_default c =
    let not_32 : (c.args.number == 32) ≡ false = grind (arith, nat_tests, c.in_default) in
    let not_33 : (c.args.number == 33) ≡ false = grind (arith, nat_tests, c.in_default) in
    let not_34 : (c.args.number == 34) ≡ false = grind (arith, nat_tests, c.in_default) in
    let not_35 : (c.args.number == 35) ≡ false = grind (arith, nat_tests, c.in_default) in
    let not_36 : (c.args.number == 36) ≡ false = grind (arith, nat_tests, c.in_default) in
    rw (not_32, not_33, not_34, not_35, not_36) c.row-in_default.ensures
