use Rattle.jx_same.proofs.SayingLemmas.{alike_same}
use Rattle.jx_same.proofs.tiles.is_known.Goals as goal

pub returns : goal.returns
returns c = λ is. alike_same c.args.a.now.stream.now c.args.b.now.stream.now c.args.tile (c.are_alike.ensures is)
