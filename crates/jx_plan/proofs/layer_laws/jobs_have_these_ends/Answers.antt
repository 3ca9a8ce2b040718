use Rattle.jx_plan.proofs.LayerLemmas.{job_ends, rule_asked, rule_keeps, rule_written}
use Rattle.jx_plan.proofs.layer_laws.jobs_have_these_ends.Goals as goal

pub returns-clause-ends : goal.returns-clause-ends
returns-clause-ends c = λ style rule layers blocks number b job some is. job_ends style rule layers blocks number b job some is

pub returns-clause-asked : goal.returns-clause-asked
returns-clause-asked c = λ style rule layers blocks number b some sound clear. rule_asked style rule layers blocks number b some sound clear

pub returns-clause-written : goal.returns-clause-written
returns-clause-written c = λ rule layers blocks number b some. rule_written rule layers blocks number b some

pub returns-clause-kept : goal.returns-clause-kept
returns-clause-kept c = λ layers blocks number b some sound all. rule_keeps layers blocks number b some sound all
