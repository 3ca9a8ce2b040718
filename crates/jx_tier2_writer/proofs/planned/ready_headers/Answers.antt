use Rattle.std.proofs.Common.{sym, subst}
use Rattle.jx_codestream.specs.declared.Stream.{Stream}
use Rattle.jx_tier2_writer.specs.Ready.{AreReady}
use Rattle.jx_tier2_writer.proofs.PlanLemmas.{plan_ready}
use Rattle.jx_tier2_writer.proofs.planned.ready_headers.Goals as goal

pub returns-clause-ready : goal.returns-clause-ready
returns-clause-ready c =
    let P : Stream → Type 0 = λ s. AreReady c.args.plan.now.wanted.marks s in
    subst P (sym c.headers.ensures.value) (plan_ready c.args.plan.now c.headers.ensures.plan c.written_is_ready.ensures)
