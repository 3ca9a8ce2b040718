use Rattle.jx_tier1.proofs.ColumnLemmas.{window_is}
use Rattle.jx_tier1.proofs.words.window.Goals as goal

pub returns : goal.returns
returns c = λ column row l m.
    window_is c.args.left c.args.own c.args.right column row c.requires.left c.requires.before c.requires.behind c.requires.right l m
