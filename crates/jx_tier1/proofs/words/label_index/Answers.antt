use Rattle.jx_tier1.proofs.IndexLemmas.{nine_are}
use Rattle.jx_tier1.proofs.words.label_index.Goals as goal

pub returns : goal.returns
returns c = nine_are c.args.window c.args.place
