use Rattle.jx_tier1.proofs.ContextLemmas.{has_contexts}
use Rattle.jx_tier1.proofs.contexts.sign_entry.Goals as goal

pub returns-clause-entry : goal.returns-clause-entry
returns-clause-entry c = has_contexts.at c.args.n c.requires

pub returns-clause-few : goal.returns-clause-few
returns-clause-few c = has_contexts.few c.args.n c.requires
