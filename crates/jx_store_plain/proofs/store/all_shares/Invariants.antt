use Rattle.std.proofs.Common.{◌≡◌, ◌+◌, vec_len}
use Rattle.std.specs.Prelude.{sum_by}
use Rattle.jx_store_plain.proofs.store.all_shares.Given as goal

abbrev pub invariant-loop-pass : goal.invariant-loop-pass
invariant-loop-pass g l = record {
  a : (l.all.claimed.parts + vec_len l.passes ≡ vec_len l.fn.passes) × (l.all.claimed.amount + sum_by (λ p. p.claimed) l.passes.items ≡ sum_by (λ p. p.claimed) l.fn.passes.items);
  b : (l.all.full.parts + vec_len l.passes ≡ vec_len l.fn.passes) × (l.all.full.amount + sum_by (λ p. p.full) l.passes.items ≡ sum_by (λ p. p.full) l.fn.passes.items);
  c : (l.all.all_claimed.parts + vec_len l.passes ≡ vec_len l.fn.passes) × (l.all.all_claimed.amount + sum_by (λ p. p.all_claimed) l.passes.items ≡ sum_by (λ p. p.all_claimed) l.fn.passes.items);
  d : (l.all.committed.parts + vec_len l.passes ≡ vec_len l.fn.passes) × (l.all.committed.amount + sum_by (λ p. p.committed) l.passes.items ≡ sum_by (λ p. p.committed) l.fn.passes.items);
  e : (l.all.made.parts + vec_len l.passes ≡ vec_len l.fn.passes) × (l.all.made.amount + sum_by (λ p. p.made) l.passes.items ≡ sum_by (λ p. p.made) l.fn.passes.items);
}

abbrev pub decreases-loop-pass : goal.decreases-loop-pass
decreases-loop-pass g l = goal.left-loop-pass g l
