use Rattle.jx_plan.proofs.PlainLemmas.{header_stands, lengths_plain, left_main, left_header, main_informs, order_plain, cods_are, totals_plain}
use Rattle.jx_plan.proofs.laws.written_headers_are_plain.Goals as goal

pub returns-clause-header : goal.returns-clause-header
returns-clause-header c = λ a s t stand may none inside. header_stands a s stand t may none inside

pub returns-clause-lengths : goal.returns-clause-lengths
returns-clause-lengths c = λ a s t stand inside. lengths_plain a s stand t inside

pub returns-clause-left_main : goal.returns-clause-left_main
returns-clause-left_main c = λ a s stand. left_main a s stand

pub returns-clause-left_header : goal.returns-clause-left_header
returns-clause-left_header c = λ a s t stand inside. left_header a s stand t inside

pub returns-clause-informs : goal.returns-clause-informs
returns-clause-informs c = λ a s stand. main_informs a s stand

pub returns-clause-order : goal.returns-clause-order
returns-clause-order c = λ a s t stand inside. order_plain a s stand t inside

pub returns-clause-cods : goal.returns-clause-cods
returns-clause-cods c = λ a s t stand. cods_are a s stand t

pub returns-clause-limits : goal.returns-clause-limits
returns-clause-limits c = λ a s fits stand h le. totals_plain a s stand fits h le
