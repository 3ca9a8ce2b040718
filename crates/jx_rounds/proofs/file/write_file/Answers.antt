use Rattle.std.proofs.Common.{arith, subst}
use Rattle.jx_plan.specs.Plan.{Plan}
use Rattle.jx_rounds.specs.Files.{IsFileHalted}
use Rattle.jx_rounds.proofs.FiledLemmas.{file_unmeasured, unmeasured_cause}
use Rattle.jx_rounds.specs.declared.halt.Halt.TheVariants as halt
use Rattle.jx_rounds.proofs.TapedLemmas.{fault_taped}
use Rattle.jx_rounds.proofs.WriteLemmas.{first_ends, first_place}
use Rattle.jx_rounds.proofs.file.write_file.Goals as goal

pub returns-in_default-main_view-clause-taped : goal.returns-in_default-main_view-clause-taped
returns-in_default-main_view-clause-taped g c = rw c.requires.empty (fault_taped c.args.plan.now 0 0 halt.NoMemory tt (first_place c.args.plan.now) (first_ends c.args.plan.now))

pub returns-in_default-with_capacity-clause-taped : goal.returns-in_default-with_capacity-clause-taped
returns-in_default-with_capacity-clause-taped g c = rw c.requires.empty (fault_taped c.args.plan.now 0 0 halt.NoMemory tt (first_place c.args.plan.now) (first_ends c.args.plan.now))

pub ready_for-requires-clause-header : goal.ready_for-requires-clause-header
ready_for-requires-clause-header g c = λ lifetimes within. rw c.new-making.ensures c.in-Ok.ensures

pub returns-clause-err : goal.returns-clause-err
returns-clause-err g c = subst (λ (p : Plan). IsFileHalted p c.args.to.now c.in-Err.halt (g.F.Files.meaning c.args.files.now) (g.F.Files.meaning c.args.files.now)) c.new-making.ensures
    (file_unmeasured c.new-making.result c.args.to.now c.in-Err.halt (g.F.Files.meaning c.args.files.now) c.in-Err.ensures.asked c.in-Err.ensures.err)

pub returns-clause-cause : goal.returns-clause-cause
returns-clause-cause g c = unmeasured_cause c.new-making.result c.in-Err.halt _ c.in-Err.ensures.err

pub returns-clause-rose : goal.returns-clause-rose
returns-clause-rose g c = λ rose. absurd (omega (arith, rose))
