use Rattle.jx_plan.proofs.AnswerLemmas.{some_answer}
use Rattle.jx_plan.proofs.CauseLemmas.{free_or_not, one_cause, planned_or_not}
use Rattle.jx_plan.proofs.LayerLaws.{CrowdLaws}
use Rattle.jx_plan.proofs.laws.one_answer.Goals as goal

crowds : goal.After-crowds_are_told → CrowdLaws
crowds c = record {
  jobs = c.crowds_are_told.ensures.jobs;
  some = c.crowds_are_told.ensures.some;
  one = c.crowds_are_told.ensures.one;
  few = c.crowds_are_told.ensures.few;
}

pub returns-clause-planned : goal.returns-clause-planned
returns-clause-planned c = λ s blocks w o p e. planned_or_not (crowds c) s blocks w o p e

pub returns-clause-free : goal.returns-clause-free
returns-clause-free c = λ s blocks w o e. free_or_not (crowds c) s blocks w o e

pub returns-clause-cause : goal.returns-clause-cause
returns-clause-cause c = λ s blocks w o e f. one_cause (crowds c) s blocks w o e f

pub returns-clause-some : goal.returns-clause-some
returns-clause-some c = λ s blocks w o may wanted makes. some_answer (crowds c) s blocks w may wanted o makes
