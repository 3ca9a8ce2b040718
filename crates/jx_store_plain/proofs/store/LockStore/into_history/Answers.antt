use Rattle.std.proofs.Common.{ℕ, ◌<◌, List, length, map, ap, sym, subst, ◌∙◌}
use Rattle.std.specs.Prelude.{slice_get}
use Rattle.jx_store.specs.declared.event.Taped.{Taped}
use Rattle.jx_store.specs.declared.work.Named.{Named}
use Rattle.jx_store_plain.specs.LockView.{LockView}
use Rattle.jx_store.specs.Machine.{State}
use Rattle.jx_store_plain.specs.Below.{AllBelow}
use Rattle.jx_store_plain.specs.Made.{made_in, made_on}
use Rattle.jx_store_plain.specs.Notes.{Notes, count_full, count_all, count_claims, count_commits}
use Rattle.jx_store_plain.specs.Replays.{Blank, Remembers, blank_taped, replayed}
use Rattle.jx_store_plain.specs.Shown.{state_of}
use Rattle.jx_store_plain.proofs.store.LockStore.into_history.Goals as goal

pub returns-clause-worker : goal.returns-clause-worker
returns-clause-worker g c i t at =
    let on = c.into_history.ensures.below.tape i t (ap (λ (l : List (Taped (Named g.row.V.Denot))). slice_get l i) (sym c.into_history.ensures.is) ∙ at) in
    subst (λ (n : ℕ). t.worker < n) c.requires.all.0 on

pub returns-clause-remembers : goal.returns-clause-remembers
returns-clause-remembers g c =
    let View = LockView (Named g.row.V.Denot) in
    let h : View = c.audit.new.self in
    let told = c.into_history.ensures in
    (state_of h.core, subst (λ (n : Notes). Remembers g.N.Bounds.setup n (state_of h.core)) (sym told.kept) told.remembers, sym told.is)

pub returns-clause-replays : goal.returns-clause-replays
returns-clause-replays g c =
    let told = c.into_history.ensures in
    ap (λ (l : List (Taped (Named g.row.V.Denot))). map blank_taped l) told.is
    ∙ ap (λ (s : State Blank). s.tape) told.remembers.alone
    ∙ ap (λ (n : Notes). (replayed g.N.Bounds.setup n).tape) (sym told.kept)

pub returns-clause-claims : goal.returns-clause-claims
returns-clause-claims g c =
    let View = LockView (Named g.row.V.Denot) in
    let of = c.all_shares-shares.ensures in
    ap count_claims c.into_history.ensures.kept ∙ ap (λ (x : View). count_claims x.notes) c.audit.ensures.same ∙ c.audit_all.ensures.claims (of.parts.0 ∙ sym c.requires.all.0) ∙ of.claimed

pub returns-clause-fulls : goal.returns-clause-fulls
returns-clause-fulls g c parts =
    let View = LockView (Named g.row.V.Denot) in
    let of = c.all_shares-shares.ensures in
    ap count_full c.into_history.ensures.kept ∙ ap (λ (x : View). count_full x.notes) c.audit.ensures.same ∙ c.audit_all.ensures.fulls (of.parts.1 ∙ sym parts) ∙ of.full

pub returns-clause-alls : goal.returns-clause-alls
returns-clause-alls g c parts =
    let View = LockView (Named g.row.V.Denot) in
    let of = c.all_shares-shares.ensures in
    ap count_all c.into_history.ensures.kept ∙ ap (λ (x : View). count_all x.notes) c.audit.ensures.same ∙ c.audit_all.ensures.alls (of.parts.2 ∙ sym parts) ∙ of.all_claimed

pub returns-clause-commits : goal.returns-clause-commits
returns-clause-commits g c =
    let View = LockView (Named g.row.V.Denot) in
    let of = c.all_shares-shares.ensures in
    ap count_commits c.into_history.ensures.kept ∙ ap (λ (x : View). count_commits x.notes) c.audit.ensures.same ∙ c.audit_all.ensures.commits (of.parts.3 ∙ sym c.requires.all.1) ∙ of.committed

pub returns-clause-history : goal.returns-clause-history
returns-clause-history g c parts =
    let View = LockView (Named g.row.V.Denot) in
    let h : View = c.audit.new.self in
    let told = c.into_history.ensures in
    let of = c.all_shares-shares.ensures in
    record {
      state = state_of h.core;
      remembers = subst (λ (n : Notes). Remembers g.N.Bounds.setup n (state_of h.core)) (sym told.kept) told.remembers;
      tape_is = sym told.is;
      below = subst (λ (n : ℕ). AllBelow n (state_of h.core)) c.requires.all.0 told.below;
      values = ap (λ (x : View). made_in (state_of x.core)) c.audit.ensures.same ∙ c.audit_all.ensures.values (of.parts.4 ∙ sym parts) ∙ of.made;
    }

pub returns-clause-told : goal.returns-clause-told
returns-clause-told g c = c.into_history.ensures.told

pub returns-clause-order : goal.returns-clause-order
returns-clause-order g c = c.into_history.ensures.order

pub returns-clause-within : goal.returns-clause-within
returns-clause-within g c = c.into_history.ensures.within

pub returns-clause-valid : goal.returns-clause-valid
returns-clause-valid g c = c.into_history.ensures.valid

pub returns-clause-whole : goal.returns-clause-whole
returns-clause-whole g c e =
    let of = c.all_shares-shares.ensures in
    let kept = c.audit_all.ensures in
    let claimed = kept.claimed.1 ∙ of.claimed in
    ap (λ (l : List (Taped (Named g.row.V.Denot))). length l) c.into_history.ensures.is
    ∙ (c.audit.ensures.whole (kept.committed.1 ∙ of.committed ∙ e ∙ sym claimed) ∙ claimed)

pub returns-clause-made : goal.returns-clause-made
returns-clause-made g c parts e =
    let View = LockView (Named g.row.V.Denot) in
    let of = c.all_shares-shares.ensures in
    let kept = c.audit_all.ensures in
    ap (λ (l : List (Taped (Named g.row.V.Denot))). made_on l) c.into_history.ensures.is
    ∙ (ap (λ (x : View). made_on x.core.tape) c.audit.ensures.same
    ∙ (kept.whole (of.parts.3 ∙ sym c.requires.all.1) (of.parts.0 ∙ sym c.requires.all.0) (of.committed ∙ e ∙ sym of.claimed)
    ∙ (kept.values (of.parts.4 ∙ sym parts) ∙ of.made)))

pub returns-clause-short : goal.returns-clause-short
returns-clause-short g c = c.into_history.ensures.short
