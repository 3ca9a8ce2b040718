use Rattle.std.proofs.lemmas.Result.{IfOk-weaker}
use Rattle.jx_rounds.proofs.IndexLemmas.{head_indexed, measured_few}
use Rattle.jx_rounds.proofs.head.indexed_head.Goals as goal

pub index_bytes-requires : goal.index_bytes-requires
index_bytes-requires c = measured_few c.args.making.now c.args.lengths.now c.requires.plan.entries c.requires.asked c.requires.measured

pub returns : goal.returns
returns c = IfOk-weaker c.with_behind.result _ _ (λ head all. head_indexed c.args.making.now c.args.lengths.now c.args.header.items c.in_ok-index.index.items head.items c.requires.asked c.requires.measured
    c.requires.header c.in_ok-index.ensures (rw c.deref.ensures.value at all)) c.with_behind.ensures
