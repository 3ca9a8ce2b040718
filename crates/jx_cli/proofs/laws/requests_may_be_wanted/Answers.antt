use Rattle.jx_cli.proofs.WantedLemmas.{may_be_limit, may_be_reduced, may_be_wanted, may_be_work}
use Rattle.jx_cli.proofs.laws.requests_may_be_wanted.Goals as goal

pub returns-clause-wanted : goal.returns-clause-wanted
returns-clause-wanted c = λ words. may_be_wanted words

pub returns-clause-work : goal.returns-clause-work
returns-clause-work c = λ words. may_be_work words

pub returns-clause-reduce : goal.returns-clause-reduce
returns-clause-reduce c = λ words. may_be_reduced words

pub returns-clause-limit : goal.returns-clause-limit
returns-clause-limit c = λ words. may_be_limit words
