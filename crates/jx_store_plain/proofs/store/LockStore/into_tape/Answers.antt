use Rattle.jx_store_plain.specs.ShownNotes.{shown}
use Rattle.jx_store_plain.proofs.store.LockStore.into_tape.Goals as goal

pub returns-clause-history : goal.returns-clause-history
returns-clause-history g c each =
    let told = c.into_history-tape.ensures in
    record {
      history = shown c.into_history-tape.result.history;
      by = told.history each.2;
      claims = told.claims;
      fulls = told.fulls each.0;
      alls = told.alls each.1;
      commits = told.commits;
    }

pub returns-clause-told : goal.returns-clause-told
returns-clause-told g c = c.into_history-tape.ensures.told

pub returns-clause-order : goal.returns-clause-order
returns-clause-order g c = c.into_history-tape.ensures.order

pub returns-clause-within : goal.returns-clause-within
returns-clause-within g c = c.into_history-tape.ensures.within

pub returns-clause-valid : goal.returns-clause-valid
returns-clause-valid g c = c.into_history-tape.ensures.valid

pub returns-clause-whole : goal.returns-clause-whole
returns-clause-whole g c = c.into_history-tape.ensures.whole

pub returns-clause-worker : goal.returns-clause-worker
returns-clause-worker g c = c.into_history-tape.ensures.worker

pub returns-clause-made : goal.returns-clause-made
returns-clause-made g c = c.into_history-tape.ensures.made
