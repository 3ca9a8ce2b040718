use Rattle.std.proofs.Common.{◌≡◌, List, map, All, ap, sym, subst, ◌∙◌, arith}
use Rattle.std.specs.Prelude.{None}
use Rattle.std.proofs.lemmas.List.Elements.{All-push}
use Rattle.jx_store_plain.specs.Passes.{PassView}
use Rattle.jx_store_plain.proofs.Deals.{one_more}
use Rattle.jx_store_plain.proofs.store.deal.Goals as goal

abbrev Fresh : PassView → Type 0
Fresh p = (p.holds ≡ None) × (p.claimed ≡ 0) × (p.full ≡ 0) × (p.all_claimed ≡ 0) × (p.committed ≡ 0)

pub loop-worker-preserved : goal.loop-worker-preserved
loop-worker-preserved g c =
    let i = c.loop-worker.invariant in let e = c.pass.ensures in let p = c.push_reserved.ensures in let one = e.is in
    let xs : List PassView = c.loop-worker.passes.items in let x : PassView = c.pass.result in
    record {
      a = ((let x = e.parts.0 in let y = i.a.0 in omega (arith, x, y)), e.none.0);
      b = ((let x = e.parts.1 in let y = i.b.0 in omega (arith, x, y)), e.none.1);
      c = ((let x = e.parts.2 in let y = i.c.0 in omega (arith, x, y)), e.none.2);
      d = ((let x = e.parts.3 in let y = i.d.0 in omega (arith, x, y)), e.none.3);
      e = ((let x = e.parts.4 in let y = i.e.0 in omega (arith, x, y)), e.none.4);
      room = (let u = p.capacity in let v = i.room in omega (arith, u, v));
      long = (let u = p.len in let v = i.long in omega (arith, u, v));
      workers = ap (map (λ (q : PassView). q.worker)) p.items ∙ one_more (λ (q : PassView). q.worker) xs x c.loop-worker.worker i.workers (ap (λ (q : PassView). q.worker) one);
      fresh = subst (All Fresh) (sym p.items) (All-push Fresh xs x i.fresh (ap (λ (q : PassView). q.holds) one, ap (λ (q : PassView). q.claimed) one, ap (λ (q : PassView). q.full) one, ap (λ (q : PassView). q.all_claimed) one, ap (λ (q : PassView). q.committed) one));
      none_made = subst (All (λ (q : PassView). q.made ≡ 0)) (sym p.items) (All-push (λ (q : PassView). q.made ≡ 0) xs x i.none_made (ap (λ (q : PassView). q.made) one));
    }
