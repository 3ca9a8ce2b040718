use Rattle.std.proofs.Common.{ℕ, ◌≡◌, ◌+◌, ◌<◌, ◌≤◌, length, arith, ap, sym, subst, ◌∙◌}
use Rattle.jx_store.specs.declared.claim.Claim.{Claim as AClaim}
use Rattle.jx_store.specs.declared.claim.ClaimAnswer.{ClaimAnswer}
use Rattle.jx_store.specs.declared.claim.ClaimAnswer.TheVariants.{Claim as Claims_one}
use Rattle.std.specs.Prelude.{Some}
use Rattle.jx_store.specs.Setup.{Setup, Within}
use Rattle.jx_store_plain.specs.Answers.{Tells}
use Rattle.jx_store_plain.specs.Passes.{PassView, claims_one}
use Rattle.jx_store_plain.specs.declared.pass.Pass.TheInside.{Inside}
use Rattle.jx_store.specs.declared.event.Event.TheVariants.{Claim}
use Rattle.jx_store.specs.declared.event.Reply.TheVariants.{Claimed, Full, AllClaimed}
use Rattle.jx_store_plain.specs.declared.history.Kind.TheVariants.{Claims}
use Rattle.jx_store.specs.declared.work.Named.{Named}
use Rattle.jx_store.specs.Machine.{State}
use Rattle.jx_store_plain.specs.Shown.{state_of}
use Rattle.jx_store_plain.specs.ShownNotes.{shown}
use Rattle.jx_store_plain.specs.LockView.{LockView}
use Rattle.jx_store_plain.specs.Replies.{replied}
use Rattle.jx_store_plain.specs.Notes.{Notes, note, count_full, count_all, count_claims, count_commits}
use Rattle.jx_store_plain.proofs.Tally.{Idle, claim_told, full_told, kept_claim, kept_same, was_claimed, was_refused, was_all, idle_claim}
use Rattle.jx_store_plain.proofs.Records.{recorded_to, count_full_tells, count_all_tells, count_claims_tells, count_commits_tells, length_tells}
use Rattle.jx_store_plain.proofs.Valids.{all_same, all_claim}
use Rattle.jx_store_plain.proofs.Made.{made_same, made_claim}
use Rattle.jx_store_plain.proofs.Below.{below_same, below_claim}
use Rattle.jx_store_plain.proofs.locked.Locked.claim.Goals.{in-Claimed, in-Full, in_default}
use Rattle.jx_store_plain.proofs.locked.Locked.claim.Goals as goal

other : (a b k seen : ℕ) → Full a b ≡ Claimed k seen → ⊥
other a b k seen e = cc

pub invariant_of-self : goal.invariant_of-self
invariant_of-self g c =
    let i = c.self.invariant in
    let s = state_of c.self.inside.core in
    let r = sym c.step.ensures.reply ∙ c.in-Claimed.is in
    let w = c.pass.inside.worker in
    let was = was_claimed s w _ _ r in
    let V = Named g.row.V.Denot in
    let first : c.step.new.self.setup.first ≡ c.self.inside.core.setup.first = ap (λ (t : State V). t.setup.first) (c.step.ensures.state ∙ was.4) in
    let drained : c.step.new.self.drained ≡ c.self.inside.core.drained = ap (λ (t : State V). t.drained) (c.step.ensures.state ∙ was.4) in
    let told = c.tell.ensures.shown in
    let grown = ap (λ (n : Notes). length n.steps) told ∙ length_tells (shown c.self.inside.history) (Claims w) in
    record {
      some = i.some;
      kept = kept_same _ _ _ _ _ c.step.ensures.state (kept_claim _ _ _ s w _ _ i.kept r);
      idle = subst Idle (sym c.step.ensures.state) (idle_claim s w _ _ r i.idle);
      valid = all_same _ _ _ c.step.ensures.state (all_claim _ s w _ _ r i.valid);
      claimed = omega arith;
      full = i.full;
      all_claimed = i.all_claimed;
      committed = i.committed;
      made = i.made;
      below = below_same _ _ _ c.step.ensures.state (below_claim _ s w _ _ r c.pass.invariant.worker i.below);
      values_are = made_same _ _ _ c.step.ensures.state (made_claim i.kept.order.0 s w _ _ i.kept.order.1 r ∙ i.values_are);
      few = i.few;
      recorded = recorded_to _ _ _ s _ (Claim w) (Claimed c.in-Claimed.number c.in-Claimed.seen) told r c.step.ensures.state i.recorded;
      long = (let l = i.long in omega arith);
      claims_are = (let a = ap count_claims told in let b = count_claims_tells (shown c.self.inside.history) (Claims w) in let d = i.claims_are in omega arith);
      fulls_are = ap count_full told ∙ count_full_tells (shown c.self.inside.history) (Claims w) ∙ i.fulls_are;
      alls_are = ap count_all told ∙ count_all_tells (shown c.self.inside.history) (Claims w) ∙ i.alls_are;
      commits_are = (let a = ap count_commits told in let b = count_commits_tells (shown c.self.inside.history) (Claims w) in let d = i.commits_are in omega arith);
      room = (let h = i.room in let q = c.tell.ensures.room.1 in omega arith);
    }

pub invariant_of-self-in-Full : goal.invariant_of-self-in-Full
invariant_of-self-in-Full g c =
    let i = c.self.invariant in
    let s = state_of c.self.inside.core in
    let e = c.step.ensures.state ∙ was_refused s c.pass.inside.worker (λ k seen r. other _ _ k seen (sym c.in-Full.is ∙ c.step.ensures.reply ∙ r)) in
    let V = Named g.row.V.Denot in
    let first : c.step.new.self.setup.first ≡ c.self.inside.core.setup.first = ap (λ (t : State V). t.setup.first) e in
    let drained : c.step.new.self.drained ≡ c.self.inside.core.drained = ap (λ (t : State V). t.drained) e in
    let told = c.refuse_full.ensures.shown in
    let same = ap (λ (n : Notes). length n.steps) told in
    let a = ap count_full told in let b = ap count_all told in
    record {
      some = i.some;
      kept = kept_same _ _ _ _ _ e i.kept;
      idle = subst Idle (sym e) i.idle;
      valid = all_same _ _ _ e i.valid;
      claimed = i.claimed;
      full = omega arith;
      all_claimed = i.all_claimed;
      committed = i.committed;
      made = i.made;
      below = below_same _ _ _ e i.below;
      values_are = made_same _ _ _ e i.values_are;
      few = i.few;
      recorded = recorded_to _ _ _ s _ (Claim c.pass.inside.worker) (Full c.in-Full.next c.in-Full.drained) told (sym c.step.ensures.reply ∙ c.in-Full.is) c.step.ensures.state i.recorded;
      long = (let l = i.long in omega arith);
      claims_are = ap count_claims told ∙ i.claims_are;
      fulls_are = (let h = i.fulls_are in omega arith);
      alls_are = (let h = i.alls_are in omega arith);
      commits_are = ap count_commits told ∙ i.commits_are;
      room = (let h = i.room in let q = c.refuse_full.ensures.room in omega arith);
    }

pub invariant_of-self-in_default : goal.invariant_of-self-in_default
invariant_of-self-in_default g c =
    let i = c.self.invariant in
    let s = state_of c.self.inside.core in
    let e = c.step.ensures.state ∙ was_refused s c.pass.inside.worker (λ k seen r. c.in_default.not-Claimed k seen (c.step.ensures.reply ∙ r)) in
    let V = Named g.row.V.Denot in
    let first : c.step.new.self.setup.first ≡ c.self.inside.core.setup.first = ap (λ (t : State V). t.setup.first) e in
    let drained : c.step.new.self.drained ≡ c.self.inside.core.drained = ap (λ (t : State V). t.drained) e in
    let told = c.refuse_all.ensures.shown in
    let same = ap (λ (n : Notes). length n.steps) told in
    let a = ap count_full told in let b = ap count_all told in
    record {
      some = i.some;
      kept = kept_same _ _ _ _ _ e i.kept;
      idle = subst Idle (sym e) i.idle;
      valid = all_same _ _ _ e i.valid;
      claimed = i.claimed;
      full = i.full;
      all_claimed = omega arith;
      committed = i.committed;
      made = i.made;
      below = below_same _ _ _ e i.below;
      values_are = made_same _ _ _ e i.values_are;
      few = i.few;
      recorded = recorded_to _ _ _ s _ (Claim c.pass.inside.worker) AllClaimed told (was_all s c.pass.inside.worker (λ k seen r. c.in_default.not-Claimed k seen (c.step.ensures.reply ∙ r)) (λ a b r. c.in_default.not-Full a b (c.step.ensures.reply ∙ r))) c.step.ensures.state i.recorded;
      long = (let l = i.long in omega arith);
      claims_are = ap count_claims told ∙ i.claims_are;
      fulls_are = (let h = i.fulls_are in omega arith);
      alls_are = (let h = i.alls_are in omega arith);
      commits_are = ap count_commits told ∙ i.commits_are;
      room = (let h = i.room in let q = c.refuse_all.ensures.room in omega arith);
    }

tells_claim : (p : Setup) (a b : PassView) (k : AClaim) (claims total number seen : ℕ) → k ≡ record { number = number; seen = seen } → b ≡ claims_one a number
    → (number ≡ p.first + claims) × (number < p.first + length p.sizes) × (p.first ≤ seen) × Within p seen number → claims ≡ total → a.claimed ≤ total
    → Tells p (Claims_one k) a b
tells_claim p a b k claims total number seen e f t same most = let is = t.0 in rw e (f, omega arith, t.1, t.2, t.3)

pub returns-clause-told : goal.returns-clause-told
returns-clause-told g c = rw (← c.pass.view_is) (
    let i = c.self.invariant in let s = state_of c.self.inside.core in let w = c.pass.inside.worker in let r = sym c.step.ensures.reply in
    let claims = c.self.inside.claims in let commits = c.self.inside.commits in
    let p : Setup = g.N.Bounds.setup in
    let V : Inside g.row.N.Denot g.row.A.Denot g.row.B.Denot g.row.C.Denot g.row.D.Denot g.row.E.Denot → PassView = λ q. record {
      worker = q.worker;
      holds = q.holds;
      claimed = q.claimed.amount;
      full = q.full.amount;
      all_claimed = q.all_claimed.amount;
      committed = q.committed.amount;
      made = q.made.amount;
    } in
    let a : PassView = V c.pass.inside in
    let P : ClaimAnswer → Type 0 = λ q. Tells p q a (V c.match-step.pass-inside) in
    elim c.match-step.branch [
      | in-Claimed x ↦ subst P (sym x.result-is) (tells_claim p a (V c.match-step.pass-inside) x.issue.result claims c.self.inside.claimed.total x.in-Claimed.number x.in-Claimed.seen x.issue.ensures
          (ap V x.pass-inside-is ∙ ap (λ (n : ℕ). record a { claimed = n; holds = Some x.in-Claimed.number }) (x.add.ensures.amount ∙ ap (λ (n : ℕ). n + 1) x.audit.ensures.amount))
          (claim_told p claims commits s w x.in-Claimed.number x.in-Claimed.seen i.kept (r ∙ x.in-Claimed.is)) i.claimed x.audit.ensures.bound)
      | in-Full x ↦ subst P (sym x.result-is) (let t = full_told p claims commits s w x.in-Full.next x.in-Full.drained i.kept (r ∙ x.in-Full.is) in
          (ap V x.pass-inside-is ∙ ap (λ (n : ℕ). record a { full = n }) x.add-in-Full.ensures.amount, t.0, t.1, t.2))
      | in_default x ↦ subst P (sym x.result-is) (ap V x.pass-inside-is ∙ ap (λ (n : ℕ). record a { all_claimed = n }) x.add-in_default.ensures.amount)
    ])

pub returns-clause-reply : goal.returns-clause-reply
returns-clause-reply g c = rw (← c.self.view_is, ← c.pass.view_is) (
    let s = state_of c.self.inside.core in let w = c.pass.inside.worker in let r = c.step.ensures.reply in
    elim c.match-step.branch [
      | in-Claimed x ↦ ap replied x.result-is ∙ ap (λ (k : AClaim). Claimed k.number k.seen) x.issue.ensures ∙ sym x.in-Claimed.is ∙ r
      | in-Full x ↦ ap replied x.result-is ∙ sym x.in-Full.is ∙ r
      | in_default x ↦ ap replied x.result-is ∙ sym (was_all s w (λ k seen e. x.in_default.not-Claimed k seen (r ∙ e)) (λ a b e. x.in_default.not-Full a b (r ∙ e)))
    ])

pub returns-clause-state : goal.returns-clause-state
returns-clause-state g c = rw (← c.self.view_is, ← c.pass.view_is) (
    let S = λ (h : LockView (Named g.row.V.Denot)). state_of h.core in
    elim c.match-step.branch [
      | in-Claimed x ↦ ap S x.self-is ∙ c.step.ensures.state
      | in-Full x ↦ ap S x.self-is ∙ c.step.ensures.state
      | in_default x ↦ ap S x.self-is ∙ c.step.ensures.state
    ])

pub returns-clause-noted : goal.returns-clause-noted
returns-clause-noted g c = rw (← c.self.view_is, ← c.pass.view_is) (
    let S = λ (h : LockView (Named g.row.V.Denot)). h.notes in
    let N = λ (a : ClaimAnswer). note {V = Named g.row.V.Denot} (shown c.self.inside.history) (Claim c.pass.inside.worker) (replied a) in
    elim c.match-step.branch [
      | in-Claimed x ↦ ap S x.self-is ∙ x.tell.ensures.shown ∙ sym (ap N x.result-is)
      | in-Full x ↦ ap S x.self-is ∙ x.refuse_full.ensures.shown ∙ sym (ap N x.result-is)
      | in_default x ↦ ap S x.self-is ∙ x.refuse_all.ensures.shown ∙ sym (ap N x.result-is)
    ])
