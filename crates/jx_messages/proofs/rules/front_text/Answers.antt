use Rattle.std.proofs.Common.{arith, ◌≡◌, ◌==◌, false, ◌∙◌, sym, ap}
use Rattle.std.proofs.lemmas.Bool.Decides.{nat_tests}
use Rattle.jx_messages.specs.Rules.{front_words}
use Rattle.jx_messages.proofs.rules.front_text.Goals as goal

pub returns-in-1 : goal.returns-in-1
unfolding front_words
returns-in-1 c = c.row.ensures ∙ sym (ap front_words c.in-1.is)

pub returns-in-2 : goal.returns-in-2
unfolding front_words
returns-in-2 c = c.row-in-2.ensures ∙ sym (ap front_words c.in-2.is)

pub returns-in-3 : goal.returns-in-3
unfolding front_words
returns-in-3 c = c.row-in-3.ensures ∙ sym (ap front_words c.in-3.is)

pub returns-in-4 : goal.returns-in-4
unfolding front_words
returns-in-4 c = c.row-in-4.ensures ∙ sym (ap front_words c.in-4.is)

pub returns-in_default : goal.returns-in_default
unfolding front_words
returns-in_default c =
    let not_1 : (c.args.number == 1) ≡ false = grind (arith, nat_tests, c.in_default) in
    let not_2 : (c.args.number == 2) ≡ false = grind (arith, nat_tests, c.in_default) in
    let not_3 : (c.args.number == 3) ≡ false = grind (arith, nat_tests, c.in_default) in
    let not_4 : (c.args.number == 4) ≡ false = grind (arith, nat_tests, c.in_default) in
    rw (not_1, not_2, not_3, not_4) c.row-in_default.ensures
