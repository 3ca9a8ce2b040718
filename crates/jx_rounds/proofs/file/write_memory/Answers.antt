use Rattle.std.proofs.Common.{subst}
use Rattle.jx_plan.specs.Plan.{Plan}
use Rattle.jx_rounds.specs.Heads.{IsCodestreamOf}
use Rattle.jx_rounds.proofs.MemoryLemmas.{memory_halted, memory_made}
use Rattle.jx_rounds.specs.declared.halt.Halt.TheVariants as halt
use Rattle.jx_rounds.proofs.TapedLemmas.{fault_taped}
use Rattle.jx_rounds.proofs.WriteLemmas.{first_ends, first_place}
use Rattle.jx_rounds.proofs.file.write_memory.Goals as goal

pub returns-in_default-main_view-clause-taped : goal.returns-in_default-main_view-clause-taped
returns-in_default-main_view-clause-taped g c = rw c.requires.empty (fault_taped c.args.plan.now 0 0 halt.NoMemory tt (first_place c.args.plan.now) (first_ends c.args.plan.now))

pub returns-in_default-with_capacity-clause-taped : goal.returns-in_default-with_capacity-clause-taped
returns-in_default-with_capacity-clause-taped g c = rw c.requires.empty (fault_taped c.args.plan.now 0 0 halt.NoMemory tt (first_place c.args.plan.now) (first_ends c.args.plan.now))

pub ready_for-requires-clause-header : goal.ready_for-requires-clause-header
ready_for-requires-clause-header g c = λ lifetimes within. rw c.new-making.ensures c.in-Ok.ensures

pub returns-in-Ok-write_ready-clause-ok : goal.returns-in-Ok-write_ready-clause-ok
returns-in-Ok-write_ready-clause-ok g c = subst (λ (p : Plan). IsCodestreamOf p c.into_bytes.result.items) c.new-making.ensures
    (memory_made c.new-making.result _ _ _ _ _ c.new-writer.ensures c.in-Ok-ready_for.ensures.head c.in-Ok-write_ready.ensures.ok c.into_bytes.ensures)
