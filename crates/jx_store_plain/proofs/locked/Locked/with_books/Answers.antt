use Rattle.std.proofs.Common.{◌≡◌, length, arith, ap, refl, sym, subst, ◌∙◌}
use Rattle.jx_store.specs.declared.work.Named.{Named}
use Rattle.jx_store.specs.Setup.{Setup}
use Rattle.jx_store.specs.Machine.{State, start}
use Rattle.jx_store_plain.specs.Shown.{state_of}
use Rattle.jx_store_plain.specs.Notes.{Notes, count_full, count_all, count_claims, count_commits}
use Rattle.jx_store_plain.proofs.Tally.{Idle, kept_start}
use Rattle.jx_store_plain.proofs.Records.{recorded_start}
use Rattle.jx_store_plain.proofs.Valids.{all_start}
use Rattle.jx_store_plain.proofs.Made.{made_start}
use Rattle.jx_store_plain.proofs.Below.{below_start}
use Rattle.jx_store_plain.proofs.locked.Locked.with_books.Goals as goal

pub invariant_of-result : goal.invariant_of-result
invariant_of-result g c =
    let r = c.requires in
    let h = c.in_ok-history.ensures in
    let V = Named g.row.V.Denot in
    let started : state_of c.in_ok-core.core ≡ start g.N.Bounds.setup = c.in_ok-core.ensures ∙ ap (λ (p : Setup). start p) (sym r.bounds) in
    let a = ap (λ (n : Notes). length n.steps) h.0 in
    let b = ap (λ (t : State V). t.setup.first) started in
    let d = ap (λ (t : State V). t.drained) started in
    let window = ap (λ (p : Setup). p.window) r.bounds in
    let sizes = ap (λ (p : Setup). length p.sizes) r.bounds in
    let some = r.window.0 in
    record {
      some = omega arith;
      kept = kept_start _ _ (omega arith) started;
      idle = subst Idle (sym started) refl;
      valid = all_start _ _ _ started;
      claimed = sym r.empty.0;
      full = sym r.empty.1;
      all_claimed = sym r.empty.2;
      committed = sym r.empty.3;
      made = sym r.empty.4;
      below = below_start _ _ _ started;
      values_are = made_start _ _ started;
      few = omega arith;
      recorded = rw h.0 (recorded_start _ _ started);
      long = omega arith;
      claims_are = ap count_claims h.0;
      fulls_are = ap count_full h.0;
      alls_are = ap count_all h.0;
      commits_are = ap count_commits h.0;
      room = (let q = h.1 in omega arith);
    }
