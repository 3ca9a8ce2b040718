use Rattle.jx_plan.proofs.ViewLemmas.{more_block_total, more_packets, more_totals}
use Rattle.jx_plan.proofs.laws.totals_stay_with_more.Goals as goal

pub returns-clause-blocks : goal.returns-clause-blocks
returns-clause-blocks c = more_block_total

pub returns-clause-packets : goal.returns-clause-packets
returns-clause-packets c = more_packets

pub returns-clause-limits : goal.returns-clause-limits
returns-clause-limits c = more_totals
