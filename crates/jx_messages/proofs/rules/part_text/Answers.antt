use Rattle.std.proofs.Common.{arith, ◌≡◌, ◌==◌, false, ◌∙◌, sym, ap}
use Rattle.std.proofs.lemmas.Bool.Decides.{nat_tests}
use Rattle.jx_messages.specs.Rules.{part_words}
use Rattle.jx_messages.proofs.rules.part_text.Goals as goal

pub returns-in-20 : goal.returns-in-20
unfolding part_words
returns-in-20 c = c.row.ensures ∙ sym (ap part_words c.in-20.is)

pub returns-in-21 : goal.returns-in-21
unfolding part_words
returns-in-21 c = c.row-in-21.ensures ∙ sym (ap part_words c.in-21.is)

pub returns-in-22 : goal.returns-in-22
unfolding part_words
returns-in-22 c = c.row-in-22.ensures ∙ sym (ap part_words c.in-22.is)

pub returns-in-23 : goal.returns-in-23
unfolding part_words
returns-in-23 c = c.row-in-23.ensures ∙ sym (ap part_words c.in-23.is)

pub returns-in-24 : goal.returns-in-24
unfolding part_words
returns-in-24 c = c.row-in-24.ensures ∙ sym (ap part_words c.in-24.is)

pub returns-in_default : goal.returns-in_default
unfolding part_words
returns-in_default c =
    let not_20 : (c.args.number == 20) ≡ false = grind (arith, nat_tests, c.in_default) in
    let not_21 : (c.args.number == 21) ≡ false = grind (arith, nat_tests, c.in_default) in
    let not_22 : (c.args.number == 22) ≡ false = grind (arith, nat_tests, c.in_default) in
    let not_23 : (c.args.number == 23) ≡ false = grind (arith, nat_tests, c.in_default) in
    let not_24 : (c.args.number == 24) ≡ false = grind (arith, nat_tests, c.in_default) in
    rw (not_20, not_21, not_22, not_23, not_24) c.row-in_default.ensures
