use Rattle.std.proofs.Common.{arith}
use Rattle.std.proofs.lemmas.Bool.{iff_false}
use Rattle.jx_options.proofs.NumberLemmas.{badly_begun, not_parsed, number_said, too_large}
use Rattle.jx_options.proofs.numbers.long_number_in.Goals as goal

pub returns-then-not-begins_well : goal.returns-then-not-begins_well
returns-then-not-begins_well c = badly_begun _ _ (omega arith) (iff_false c.begins_well.ensures c.if-not-begins_well.true)

pub returns-in_default : goal.returns-in_default
returns-in_default c = not_parsed _ _ (omega arith) c.in_default.ensures.value.0

pub returns-then-number-most : goal.returns-then-number-most
returns-then-number-most c = too_large _ _ _ (omega arith) (omega arith) (c.begins_well.ensures.0 c.if-not-begins_well.false) c.in-Ok.ensures.value.0 c.if-number-most.true

pub returns : goal.returns
returns c = number_said _ _ _ (omega arith) (c.begins_well.ensures.0 c.if-not-begins_well.false) c.in-Ok.ensures.value.0 c.if-number-most.false
