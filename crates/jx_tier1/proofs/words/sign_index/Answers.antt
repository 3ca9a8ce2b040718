use Rattle.jx_tier1.proofs.IndexLemmas.{four_are}
use Rattle.jx_tier1.proofs.words.sign_index.Goals as goal

pub returns : goal.returns
returns c = four_are c.args.window c.args.signs c.args.place
