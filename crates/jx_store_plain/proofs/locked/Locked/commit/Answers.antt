use Rattle.std.proofs.Common.{◌≡◌, arith, refl, ap, sym, subst, ◌∙◌}
use Rattle.jx_store.specs.Setup.{Setup}
use Rattle.jx_store.specs.Machine.{State, does}
use Rattle.jx_store_plain.specs.LockView.{LockView}
use Rattle.jx_store_plain.specs.Recorded.{Settled}
use Rattle.jx_store_plain.specs.Shown.{state_of}
use Rattle.jx_store_plain.proofs.Tally.{Idle, kept_commit, kept_same, kept_drains, was_foreign, was_foreign_reply, was_committed}
use Rattle.std.proofs.Common.{length}
use Rattle.jx_store.specs.declared.event.Event.{Event}
use Rattle.jx_store.specs.declared.event.Event.TheVariants.{Commit}
use Rattle.jx_store.specs.declared.event.Reply.TheVariants.{Committed, Foreign}
use Rattle.jx_store_plain.specs.declared.history.Kind.TheVariants.{Commits}
use Rattle.jx_store.specs.declared.work.Named.{Named}
use Rattle.jx_store_plain.specs.ShownNotes.{shown}
use Rattle.jx_store_plain.specs.Notes.{Notes, note, count_full, count_all, count_claims, count_commits}
use Rattle.jx_store_plain.proofs.Records.{recorded_to, settled_from, settled_none, recorded_drains, counts_drains, kinds_drains, count_claims_tells, count_commits_tells, count_full_tells, count_all_tells, length_tells}
use Rattle.jx_store_plain.proofs.Valids.{all_same, all_commit, all_drains}
use Rattle.jx_store_plain.proofs.Made.{made_same, made_commit, made_drains}
use Rattle.jx_store_plain.proofs.Below.{below_same, below_commit, below_drains}
use Rattle.jx_store_plain.proofs.locked.Locked.commit.Goals.{in-Committed, in_default}
use Rattle.jx_store_plain.proofs.locked.Locked.commit.Goals as goal

pub overflow_add-self : goal.overflow_add-self
overflow_add-self g c =
    let i = c.self.invariant in
    let s = state_of c.self.inside.core in
    let k = kept_commit _ _ _ s c.pass.inside.worker c.args.number c.args.value i.kept (sym c.step.ensures.reply ∙ c.in-Committed.is) in
    let more = k.commits_is in
    let range = c.self.ranges in
    record { fits = omega arith }

pub settle-requires : goal.settle-requires
settle-requires g c =
    let i = c.self.invariant in
    let s = state_of c.self.inside.core in
    let t = state_of c.step.new.self in
    let V = Named g.row.V.Denot in
    let r = sym c.step.ensures.reply ∙ c.in-Committed.is in
    let w = c.pass.inside.worker in let number = c.args.number in let value = c.args.value in
    let k = kept_same _ _ _ _ t c.step.ensures.state (kept_commit _ _ _ s w number value i.kept r) in
    let was = was_committed s w number value r in
    let first : c.step.new.self.setup.first ≡ c.self.inside.core.setup.first = ap (λ (u : State V). u.setup.first) (c.step.ensures.state ∙ was.3) in
    let drained : c.step.new.self.drained ≡ c.self.inside.core.drained = ap (λ (u : State V). u.drained) (c.step.ensures.state ∙ was.3) in
    let o = k.order.1 in let mid = o.mid in let high = o.high in let low = o.low in
    let a = k.claims_is in let b = k.commits_is in let sz = ap (λ (p : Setup). length p.sizes) k.setup_is in
    let l = i.long in let q = c.tell.ensures.room.0 in let q' = c.tell.ensures.room.1 in let room = i.room in
    let ok = c.self.inside.history.steps.ok.0 in
    (mid, omega arith)

pub invariant_of-self : goal.invariant_of-self
invariant_of-self g c =
    let i = c.self.invariant in
    let s = state_of c.self.inside.core in
    let r = sym c.step.ensures.reply ∙ c.in-Committed.is in
    let w = c.pass.inside.worker in let number = c.args.number in let value = c.args.value in
    let k = kept_commit _ _ _ s w number value i.kept r in
    let z = c.settle.ensures.settled in
    let t = state_of c.step.new.self in
    let k' = kept_same _ _ _ _ t c.step.ensures.state k in
    let told = c.tell.ensures.shown in
    let rec = recorded_to _ _ _ s t (Commit w number value) Committed told r c.step.ensures.state i.recorded in
    let counts = counts_drains t (shown c.tell.new.self) z.0 in
    let kinds = kinds_drains t (shown c.tell.new.self) z.0 in
    let was = was_committed s w number value r in
    let first : c.step.new.self.setup.first ≡ c.self.inside.core.setup.first = ap (λ (u : State (Named g.row.V.Denot)). u.setup.first) (c.step.ensures.state ∙ was.3) in
    let drained : c.step.new.self.drained ≡ c.self.inside.core.drained = ap (λ (u : State (Named g.row.V.Denot)). u.drained) (c.step.ensures.state ∙ was.3) in
    let grown = ap (λ (n : Notes). length n.steps) told ∙ length_tells (shown c.self.inside.history) (Commits w number) in
    record {
      some = i.some;
      kept = kept_same _ _ _ _ _ z.1 (kept_drains _ _ _ t z.0 k');
      idle = z.3;
      valid = all_same _ _ _ z.1 (all_drains _ t z.0 (all_same _ _ _ c.step.ensures.state (all_commit _ s w number value r c.requires.value i.valid)));
      claimed = i.claimed;
      full = i.full;
      all_claimed = i.all_claimed;
      committed = omega arith;
      made = omega arith;
      below = below_same _ _ _ z.1 (below_drains _ t z.0 (below_same _ _ _ c.step.ensures.state (below_commit _ s w number value r i.below)));
      values_are = (let x = made_same _ _ _ z.1 (made_drains _ _ _ t z.0 k') in let y = made_same _ _ _ c.step.ensures.state (made_commit i.kept.order.0 s w number value i.kept.order.1 r) in let u = i.values_are in omega arith);
      few = (let u = i.few in let x = c.one_made-one.ensures.few in omega arith);
      recorded = rw (z.1, z.2) (recorded_drains _ (shown c.tell.new.self) t z.0 rec);
      long = (let l = i.long in let y = z.4 in let f1 = ap (λ (p : Setup). p.first) (kept_drains _ _ _ t z.0 k').setup_is in let f2 = ap (λ (u : State (Named g.row.V.Denot)). u.setup.first) z.1 in let f0 = ap (λ (p : Setup). p.first) i.kept.setup_is in omega arith);
      claims_are = (let x = ap count_claims z.2 in let y = kinds.0 in let a = ap count_claims told in let b = count_claims_tells (shown c.self.inside.history) (Commits w number) in let d = i.claims_are in omega arith);
      commits_are = (let x = ap count_commits z.2 in let y = kinds.1 in let a = ap count_commits told in let b = count_commits_tells (shown c.self.inside.history) (Commits w number) in let d = i.commits_are in omega arith);
      fulls_are = ap count_full z.2 ∙ counts.0 ∙ ap count_full told ∙ count_full_tells (shown c.self.inside.history) (Commits w number) ∙ i.fulls_are;
      alls_are = ap count_all z.2 ∙ counts.1 ∙ ap count_all told ∙ count_all_tells (shown c.self.inside.history) (Commits w number) ∙ i.alls_are;
      room = (let h = i.room in let q = c.tell.ensures.room.1 in let q' = c.settle.ensures.room in omega arith);
    }

pub invariant_of-self-in_default : goal.invariant_of-self-in_default
invariant_of-self-in_default g c =
    let i = c.self.invariant in
    let s = state_of c.self.inside.core in
    let e = c.step.ensures.state ∙ was_foreign s c.pass.inside.worker c.args.number c.args.value (λ r. c.in_default.not-Committed (c.step.ensures.reply ∙ r)) in
    record {
      some = i.some;
      kept = kept_same _ _ _ _ _ e i.kept;
      idle = subst Idle (sym e) i.idle;
      valid = all_same _ _ _ e i.valid;
      claimed = i.claimed;
      full = i.full;
      all_claimed = i.all_claimed;
      committed = i.committed;
      made = i.made;
      below = below_same _ _ _ e i.below;
      values_are = made_same _ _ _ e i.values_are;
      few = i.few;
      recorded = recorded_to _ _ _ s _ (Commit c.pass.inside.worker c.args.number c.args.value) Foreign refl (was_foreign_reply s c.pass.inside.worker c.args.number c.args.value (λ r. c.in_default.not-Committed (c.step.ensures.reply ∙ r))) c.step.ensures.state i.recorded;
      long = (let l = i.long in let f = ap (λ (u : State (Named g.row.V.Denot)). u.setup.first) e in let d = ap (λ (u : State (Named g.row.V.Denot)). u.drained) e in omega arith);
      claims_are = i.claims_are;
      fulls_are = i.fulls_are;
      alls_are = i.alls_are;
      commits_are = i.commits_are;
      room = i.room;
    }

pub returns-clause-settled : goal.returns-clause-settled
returns-clause-settled g c = rw (← c.self.view_is, ← c.pass.view_is) (
    let V = Named g.row.V.Denot in
    let i = c.self.invariant in
    let s = state_of c.self.inside.core in let n = shown c.self.inside.history in
    let w = c.pass.inside.worker in let number = c.args.number in let value = c.args.value in
    let e : Event V = Commit w number value in
    let P : LockView V → Type 0 = λ h. Settled (does s e).0 (note n e (does s e).1) (state_of h.core) h.notes in
    elim c.match-step.branch [
      | in-Committed x ↦ subst P (sym x.self-is) (settled_from s (state_of c.step.new.self) _ n (shown x.tell.new.self) _ e Committed c.step.ensures.state (sym c.step.ensures.reply ∙ x.in-Committed.is) x.tell.ensures.shown x.settle.ensures.settled)
      | in_default x ↦ (let not : (does s e).1 ≡ Committed → ⊥ = λ r. x.in_default.not-Committed (c.step.ensures.reply ∙ r) in
          let same = c.step.ensures.state ∙ was_foreign s w number value not in
          subst P (sym x.self-is) (settled_none s (state_of c.step.new.self) n e Foreign c.step.ensures.state (was_foreign_reply s w number value not) refl (subst Idle (sym same) i.idle)))
    ])
