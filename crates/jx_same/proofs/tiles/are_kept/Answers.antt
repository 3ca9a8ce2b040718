use Rattle.jx_same.proofs.SayingLemmas.{before_all}
use Rattle.jx_same.proofs.tiles.are_kept.Goals as goal

pub returns : goal.returns
returns c = λ is. before_all c.args.a.now.stream.now c.args.b.now.stream.now c.args.tile (c.are_as_before.ensures is) (λ lt. c.requires.before c.if-not-after.false)
