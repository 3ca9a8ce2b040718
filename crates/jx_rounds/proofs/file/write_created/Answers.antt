use Rattle.std.proofs.Common.{arith, ◌≡◌, ◌∙◌, IsTrue, List, [], Option, None, Some, IfSome, ap, length, refl, subst, sym}
use Rattle.jx_plan.specs.Plan.{IsPlan, Plan}
use Rattle.jx_rounds.specs.Rounds.{IsFault, IsTapedTo}
use Rattle.jx_rounds.specs.declared.halt.Halt.{Halt}
use Rattle.jx_rounds.specs.declared.tape.TapeEntry.{TapeEntry}
use Rattle.jx_rounds.specs.FileBytes.{Device}
use Rattle.jx_rounds.proofs.TapedLemmas.{fault_taped, whole_taped}
use Rattle.jx_rounds.proofs.WriteLemmas.{first_ends, first_place, halt_fault, refused_cause, refused_rose, unrisen}
use Rattle.jx_rounds.proofs.FiledLemmas.{created_making, file_halted, file_made, file_uncreated, file_unfinished}
use Rattle.jx_rounds.proofs.file.write_created.Goals as goal

-- the tape before a file is created
ready_taped : {T : Type 0} (p : Plan) (held : Option T) (tape : List TapeEntry) (h : Halt) → IsPlan p → IsFault h → (held ≡ None → tape ≡ []) → IfSome held (λ x. length tape ≡ length p.blocks)
    → IsTapedTo p h (length tape)
ready_taped p None tape h plan fault fresh full = subst (λ (xs : List TapeEntry). IsTapedTo p h (length xs)) (sym (fresh refl)) (fault_taped p 0 0 h fault (first_place p) (first_ends p))
ready_taped p (Some x) tape h plan fault fresh full = whole_taped p (length tape) h plan fault full

pub write_ready-requires-clause-may : goal.write_ready-requires-clause-may
write_ready-requires-clause-may g c = λ lifetimes within. created_making c.args.to.now (g.F.Files.meaning c.args.files.now) (g.F.Files.meaning c.create.new.self) c.in-Ok.ensures.ok

pub finish-requires : goal.finish-requires
finish-requires g c = subst (λ (d : Device). IsTrue d.told.making) (sym c.write_ready.ensures.other)
    (created_making c.args.to.now (g.F.Files.meaning c.args.files.now) (g.F.Files.meaning c.create.new.self) c.in-Ok.ensures.ok)

pub returns-in-Err-clause-err : goal.returns-in-Err-clause-err
returns-in-Err-clause-err g c = file_uncreated c.args.making.now c.args.to.now c.halt_of.result (g.F.Files.meaning c.args.files.now) (g.F.Files.meaning c.create.new.self) (halt_fault c.halt_of.result c.in-Err.refused c.halt_of.ensures) c.in-Err.ensures.err

pub returns-in-Err-clause-tape : goal.returns-in-Err-clause-tape
returns-in-Err-clause-tape g c = c.requires.few

pub returns-in-Err-clause-cause : goal.returns-in-Err-clause-cause
returns-in-Err-clause-cause g c = refused_cause _ _ c.halt_of.result c.in-Err.refused c.halt_of.ensures c.in-Err.ensures.cause

pub returns-in-Err-clause-other : goal.returns-in-Err-clause-other
returns-in-Err-clause-other g c = c.create.ensures.other

pub returns-in-Ok-finish-clause-ok : goal.returns-in-Ok-finish-clause-ok
returns-in-Ok-finish-clause-ok g c =
    file_made c.args.making.now c.args.to.now c.args.ready.now.head.items c.in-Ok-write_ready.bytes (g.F.Files.meaning c.args.files.now) (g.F.Files.meaning c.create.new.self) (g.F.Files.meaning c.write_ready.new.writer)
    (g.F.Files.meaning c.finish.new.self) c.requires.head c.in-Ok.ensures.ok c.in-Ok-write_ready.ensures.ok (ap (λ (d : Device). d.told) c.write_ready.ensures.other) c.in-Ok-finish.ensures.ok

pub returns-in-Ok-finish-clause-tape : goal.returns-in-Ok-finish-clause-tape
returns-in-Ok-finish-clause-tape g c = c.write_ready.ensures.tape

pub returns-in-Ok-finish-clause-whole : goal.returns-in-Ok-finish-clause-whole
returns-in-Ok-finish-clause-whole g c = c.in-Ok-write_ready.ensures.whole

pub returns-in-Ok-finish-clause-other : goal.returns-in-Ok-finish-clause-other
returns-in-Ok-finish-clause-other g c = c.finish.ensures.other ∙ ap (λ (d : Device). d.read_faults) c.write_ready.ensures.other ∙ c.create.ensures.other

pub returns-in-Err-finish-clause-err : goal.returns-in-Err-finish-clause-err
returns-in-Err-finish-clause-err g c = rw c.in-Err-finish.ensures.err
    (file_unfinished c.args.making.now c.args.to.now c.args.ready.now.head.items c.in-Ok-write_ready.bytes c.halt_of-in-Err-finish.result c.in-Err-finish.refused (g.F.Files.meaning c.args.files.now) (g.F.Files.meaning c.create.new.self)
    (g.F.Files.meaning c.write_ready.new.writer) c.requires.head c.in-Ok.ensures.ok c.halt_of-in-Err-finish.ensures c.in-Ok-write_ready.ensures.ok
    (ap (λ (d : Device). d.told) c.write_ready.ensures.other))

pub returns-in-Err-finish-clause-tape : goal.returns-in-Err-finish-clause-tape
returns-in-Err-finish-clause-tape g c = c.write_ready.ensures.tape

pub returns-in-Err-finish-clause-cause : goal.returns-in-Err-finish-clause-cause
returns-in-Err-finish-clause-cause g c = rw (← unrisen _ _ _ c.in-Ok.ensures.cause, ← c.in-Ok-write_ready.ensures.same)
    (refused_cause _ _ c.halt_of-in-Err-finish.result c.in-Err-finish.refused c.halt_of-in-Err-finish.ensures c.in-Err-finish.ensures.cause)

pub returns-in-Err-finish-clause-other : goal.returns-in-Err-finish-clause-other
returns-in-Err-finish-clause-other g c = c.finish.ensures.other ∙ ap (λ (d : Device). d.read_faults) c.write_ready.ensures.other ∙ c.create.ensures.other

pub returns-in-Err-write_ready-clause-err : goal.returns-in-Err-write_ready-clause-err
returns-in-Err-write_ready-clause-err g c = file_halted c.args.making.now c.args.to.now c.args.ready.now.head.items c.in-Err-write_ready.halt (g.F.Files.meaning c.args.files.now) (g.F.Files.meaning c.create.new.self) (g.F.Files.meaning c.write_ready.new.writer)
    c.requires.head c.in-Ok.ensures.ok c.in-Err-write_ready.ensures.err (ap (λ (d : Device). d.told) c.write_ready.ensures.other)

pub returns-in-Err-write_ready-clause-tape : goal.returns-in-Err-write_ready-clause-tape
returns-in-Err-write_ready-clause-tape g c = c.write_ready.ensures.tape

pub returns-in-Err-write_ready-clause-cause : goal.returns-in-Err-write_ready-clause-cause
returns-in-Err-write_ready-clause-cause g c = rw (← unrisen _ _ _ c.in-Ok.ensures.cause) c.in-Err-write_ready.ensures.cause

pub returns-in-Err-write_ready-clause-other : goal.returns-in-Err-write_ready-clause-other
returns-in-Err-write_ready-clause-other g c = ap (λ (d : Device). d.read_faults) c.write_ready.ensures.other ∙ c.create.ensures.other

pub returns-in-Err-clause-rose : goal.returns-in-Err-clause-rose
returns-in-Err-clause-rose g c = refused_rose _ _ c.halt_of.result c.in-Err.refused c.halt_of.ensures c.in-Err.ensures.cause

pub returns-in-Ok-finish-clause-rose : goal.returns-in-Ok-finish-clause-rose
returns-in-Ok-finish-clause-rose g c =
    λ rose. absurd (omega (arith, unrisen _ _ _ c.in-Ok.ensures.cause, c.in-Ok-write_ready.ensures.same, unrisen _ _ _ c.in-Ok-finish.ensures.cause, rose))

pub returns-in-Err-finish-clause-rose : goal.returns-in-Err-finish-clause-rose
returns-in-Err-finish-clause-rose g c = rw (← unrisen _ _ _ c.in-Ok.ensures.cause, ← c.in-Ok-write_ready.ensures.same)
    (refused_rose _ _ c.halt_of-in-Err-finish.result c.in-Err-finish.refused c.halt_of-in-Err-finish.ensures c.in-Err-finish.ensures.cause)

pub returns-in-Err-write_ready-clause-rose : goal.returns-in-Err-write_ready-clause-rose
returns-in-Err-write_ready-clause-rose g c = rw (← unrisen _ _ _ c.in-Ok.ensures.cause) c.in-Err-write_ready.ensures.rose

pub returns-in-Err-clause-taped : goal.returns-in-Err-clause-taped
returns-in-Err-clause-taped g c =
    ready_taped c.args.making.now c.args.ready.now.held c.args.tape.now.items c.halt_of.result c.requires.plan (halt_fault c.halt_of.result c.in-Err.refused c.halt_of.ensures) c.requires.fresh c.requires.full

pub returns-in-Err-finish-clause-taped : goal.returns-in-Err-finish-clause-taped
returns-in-Err-finish-clause-taped g c = whole_taped c.args.making.now _ c.halt_of-in-Err-finish.result c.requires.plan
    (halt_fault c.halt_of-in-Err-finish.result c.in-Err-finish.refused c.halt_of-in-Err-finish.ensures) c.in-Ok-write_ready.ensures.whole

pub returns-in-Err-write_ready-clause-taped : goal.returns-in-Err-write_ready-clause-taped
returns-in-Err-write_ready-clause-taped g c = c.in-Err-write_ready.ensures.taped
