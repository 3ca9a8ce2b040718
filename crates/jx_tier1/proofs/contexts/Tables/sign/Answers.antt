use Rattle.jx_tier1.proofs.ContextLemmas.{context_read, less_back}
use Rattle.jx_tier1.specs.Contexts.{sign_context}
use Rattle.jx_tier1.proofs.contexts.Tables.sign.Goals as goal

pub returns-clause-row : goal.returns-clause-row
returns-clause-row c = λ k g x y s f.
    context_read k g x y c.args.window c.args.signs c.args.place c.sign_index.result c.sign_entry-entry.result c.sign_entry-entry.ensures.few c.sign_entry-entry.ensures.entry c.requires s f
    c.sign_index.ensures

pub returns-clause-few : goal.returns-clause-few
returns-clause-few c = less_back (sign_context c.sign_index.result) c.sign_entry-entry.result c.sign_entry-entry.ensures.few c.sign_entry-entry.ensures.entry
