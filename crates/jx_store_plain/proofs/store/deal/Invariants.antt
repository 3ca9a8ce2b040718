use Rattle.std.proofs.Common.{◌≡◌, ◌+◌, ◌≤◌, map, vec_len, vec_capacity}
use Rattle.std.specs.Prelude.{All, None}
use Rattle.jx_store.specs.Order.{numbers}
use Rattle.jx_store_plain.proofs.store.deal.Given as goal

abbrev pub invariant-loop-worker : goal.invariant-loop-worker
invariant-loop-worker g l = record {
  a : (l.shares.claimed.parts + l.worker ≡ l.workers) × (l.shares.claimed.amount ≡ 0);
  b : (l.shares.full.parts + l.worker ≡ l.workers) × (l.shares.full.amount ≡ 0);
  c : (l.shares.all_claimed.parts + l.worker ≡ l.workers) × (l.shares.all_claimed.amount ≡ 0);
  d : (l.shares.committed.parts + l.worker ≡ l.workers) × (l.shares.committed.amount ≡ 0);
  e : (l.shares.made.parts + l.worker ≡ l.workers) × (l.shares.made.amount ≡ 0);
  room : l.workers ≤ vec_capacity l.passes;
  long : vec_len l.passes ≡ l.worker;
  workers : map (λ p. p.worker) l.passes.items ≡ numbers 0 l.worker;
  fresh : All (λ p. (p.holds ≡ None) × (p.claimed ≡ 0) × (p.full ≡ 0) × (p.all_claimed ≡ 0) × (p.committed ≡ 0)) l.passes.items;
  none_made : All (λ p. p.made ≡ 0) l.passes.items;
}
