use Rattle.jx_same.proofs.tiles.is_same.Goals as goal

pub returns : goal.returns
returns c = λ is. c.requires.changed c.args.comp c.requires.comp (c.is_unchanged.ensures is)
