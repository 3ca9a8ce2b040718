use Rattle.std.proofs.Common.{arith, ◌≡◌, ◌==◌, false, ◌∙◌, sym, ap}
use Rattle.std.proofs.lemmas.Bool.Decides.{nat_tests}
use Rattle.jx_messages.specs.Rules.{other_words}
use Rattle.jx_messages.proofs.rules.other_text.Goals as goal

pub returns-in-10 : goal.returns-in-10
unfolding other_words
returns-in-10 c = c.row.ensures ∙ sym (ap other_words c.in-10.is)

pub returns-in-11 : goal.returns-in-11
unfolding other_words
returns-in-11 c = c.row-in-11.ensures ∙ sym (ap other_words c.in-11.is)

pub returns-in-12 : goal.returns-in-12
unfolding other_words
returns-in-12 c = c.row-in-12.ensures ∙ sym (ap other_words c.in-12.is)

pub returns-in-13 : goal.returns-in-13
unfolding other_words
returns-in-13 c = c.row-in-13.ensures ∙ sym (ap other_words c.in-13.is)

pub returns-in_default : goal.returns-in_default
unfolding other_words
returns-in_default c =
    let not_10 : (c.args.number == 10) ≡ false = grind (arith, nat_tests, c.in_default) in
    let not_11 : (c.args.number == 11) ≡ false = grind (arith, nat_tests, c.in_default) in
    let not_12 : (c.args.number == 12) ≡ false = grind (arith, nat_tests, c.in_default) in
    let not_13 : (c.args.number == 13) ≡ false = grind (arith, nat_tests, c.in_default) in
    rw (not_10, not_11, not_12, not_13) c.row-in_default.ensures
