use Rattle.std.proofs.lemmas.Result.{IfOk-weaker}
use Rattle.jx_same.proofs.SayingLemmas.{before_one}
use Rattle.jx_same.proofs.tiles.changed_unless.Goals as goal

pub returns : goal.returns
returns c =
    IfOk-weaker c.changed_comps.result _ _
    (λ r h k lt is. before_one c.args.a.now.stream.now c.args.b.now.stream.now c.args.tile k (h k is) (λ some. c.requires c.if-not-after.false) lt) c.changed_comps.ensures
