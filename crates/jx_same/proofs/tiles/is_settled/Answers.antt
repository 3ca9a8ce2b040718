use Rattle.jx_same.proofs.SharedLemmas.{empty_none}
use Rattle.jx_same.proofs.tiles.is_settled.Goals as goal

pub returns : goal.returns
returns c = λ is.
    (let a = c.args.a.now in
    let b = c.args.b.now in
    empty_none a.stream b.stream a.blocks b.blocks a.tile c.args.comp c.requires.comp (c.requires.same is) (c.requires.empty c.if-not-empty.false))
