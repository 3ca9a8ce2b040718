use Rattle.std.proofs.Common.{ℕ, List, length, ap, sym, subst, ◌∙◌, ◌≡◌, ◌⊎◌, ◌+◌, ◌<◌, ◌≤◌}
use Rattle.jx_store.specs.Order.{numbers}
use Rattle.jx_store.specs.Setup.{Setup}
use Rattle.jx_store.specs.Valid.{IsOf}
use Rattle.jx_workers.specs.Stops.{IsBadBelow}
use Rattle.jx_workers.proofs.PassLemmas.{all_free}
use Rattle.jx_workers.proofs.workers.tape_of.Goals as goal

pub all_work-requires-clause-free : goal.all_work-requires-clause-free
all_work-requires-clause-free g c κs within =
    let b = c.requires.bounds in let e = c.in_ok-store.ensures in
    all_free g.N.Bounds.setup c.in_ok-store.store.table.shared.table_id g.N.Bounds.workers c.args.limits.first c.args.limits.threads c.in_ok-store.passes.items c.as_mut_slice.result.now
    (ap (λ (p : Setup). p.first) b.0) b.1 e.workers e.fresh c.as_mut_slice.ensures.value

pub returns-clause-order : goal.returns-clause-order
returns-clause-order g c =
    let b = c.requires.bounds in
    c.collect.ensures.order ∙ ap (λ (p : Setup). numbers p.first (length c.collect.result.items)) b.0

pub returns-clause-ended : goal.returns-clause-ended
returns-clause-ended g c =
    let b = c.requires.bounds in
    let n : ℕ = length c.collect.result.items in
    let set = subst (λ (p : Setup). (n ≡ length p.sizes) ⊎ IsBadBelow p.first g.N.Bounds.jobs g.V.Work.bad (p.first + n)) b.0 c.collect.ensures.ended in
    let named = subst (λ (jobs : List _). (n ≡ length c.args.sizes.now) ⊎ IsBadBelow c.args.limits.first jobs g.V.Work.bad (c.args.limits.first + n)) b.2 set in
    subst (λ (count : ℕ). (n ≡ count) ⊎ IsBadBelow c.args.limits.first c.args.jobs.now g.V.Work.bad (c.args.limits.first + n)) (sym c.requires.count.2) named

pub returns-clause-each : goal.returns-clause-each
returns-clause-each g c i t at =
    let b = c.requires.bounds in let e = c.collect.ensures.each i t at in (
      subst (λ (n : ℕ). t.worker < n) b.1 e.0,
      subst (λ (n : ℕ). n ≤ t.seen) (ap (λ (p : Setup). p.first) b.0) e.1,
      e.2,
      subst (λ (n : ℕ). IsOf g.V.Work.number g.V.Work.job g.V.Work.bad n c.args.jobs.now t.number t.named) (ap (λ (p : Setup). p.first) b.0)
          (subst (λ (jobs : List _). IsOf g.V.Work.number g.V.Work.job g.V.Work.bad g.N.Bounds.setup.first jobs t.number t.named) b.2 e.3),
    )
