use Rattle.jx_workers.proofs.PassLemmas.{claims_below, ended, entries_below, worker_of}
use Rattle.jx_workers.proofs.workers.collect.Goals as goal

pub returns-clause-ended : goal.returns-clause-ended
returns-clause-ended g c =
    let e = c.into_tape.ensures in let p = g.N.Bounds.setup in
    ended p g.N.Bounds.jobs g.V.Work.bad c.args.store.table.shared.table_id g.N.Bounds.workers c.args.passes.items _ c.requires.some c.requires.done e.whole
    (claims_below _ _ c.args.passes.items e.same (entries_below p.first c.into_tape.result.items e.order))

pub returns-clause-each : goal.returns-clause-each
returns-clause-each g c i t at =
    let e = c.into_tape.ensures in
    let worker = worker_of g.N.Bounds.setup g.N.Bounds.jobs g.V.Work.bad c.args.store.table.shared.table_id g.N.Bounds.workers c.args.passes.items t.worker _ c.requires.done (e.who i t at) in
    (worker.0, worker.1, e.within i t at, e.valid i t at)
