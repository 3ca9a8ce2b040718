use Rattle.std.proofs.Common.{arith, ◌≡◌, ◌==◌, false, ◌∙◌, sym, ap}
use Rattle.std.proofs.lemmas.Bool.Decides.{nat_tests}
use Rattle.jx_messages.specs.Rules.{coding_words}
use Rattle.jx_messages.proofs.rules.coding_text.Goals as goal

pub returns-in-6 : goal.returns-in-6
unfolding coding_words
returns-in-6 c = c.row.ensures ∙ sym (ap coding_words c.in-6.is)

pub returns-in-7 : goal.returns-in-7
unfolding coding_words
returns-in-7 c = c.row-in-7.ensures ∙ sym (ap coding_words c.in-7.is)

pub returns-in-8 : goal.returns-in-8
unfolding coding_words
returns-in-8 c = c.row-in-8.ensures ∙ sym (ap coding_words c.in-8.is)

pub returns-in_default : goal.returns-in_default
unfolding coding_words
returns-in_default c =
    let not_6 : (c.args.number == 6) ≡ false = grind (arith, nat_tests, c.in_default) in
    let not_7 : (c.args.number == 7) ≡ false = grind (arith, nat_tests, c.in_default) in
    let not_8 : (c.args.number == 8) ≡ false = grind (arith, nat_tests, c.in_default) in
    rw (not_6, not_7, not_8) c.row-in_default.ensures
