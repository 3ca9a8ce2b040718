use Rattle.std.proofs.Common.{arith, ◌≡◌, ◌==◌, false, ◌∙◌, sym, ap}
use Rattle.std.proofs.lemmas.Bool.Decides.{nat_tests}
use Rattle.jx_messages.specs.Rules.{header_words}
use Rattle.jx_messages.proofs.rules.header_text.Goals as goal

pub returns-in-15 : goal.returns-in-15
unfolding header_words
returns-in-15 c = c.row.ensures ∙ sym (ap header_words c.in-15.is)

pub returns-in-16 : goal.returns-in-16
unfolding header_words
returns-in-16 c = c.row-in-16.ensures ∙ sym (ap header_words c.in-16.is)

pub returns-in-17 : goal.returns-in-17
unfolding header_words
returns-in-17 c = c.row-in-17.ensures ∙ sym (ap header_words c.in-17.is)

pub returns-in-18 : goal.returns-in-18
unfolding header_words
returns-in-18 c = c.row-in-18.ensures ∙ sym (ap header_words c.in-18.is)

pub returns-in_default : goal.returns-in_default
unfolding header_words
returns-in_default c =
    let not_15 : (c.args.number == 15) ≡ false = grind (arith, nat_tests, c.in_default) in
    let not_16 : (c.args.number == 16) ≡ false = grind (arith, nat_tests, c.in_default) in
    let not_17 : (c.args.number == 17) ≡ false = grind (arith, nat_tests, c.in_default) in
    let not_18 : (c.args.number == 18) ≡ false = grind (arith, nat_tests, c.in_default) in
    rw (not_15, not_16, not_17, not_18) c.row-in_default.ensures
