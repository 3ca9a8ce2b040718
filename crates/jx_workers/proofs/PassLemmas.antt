-- What holds of all passes, before the workers begin and after they ended.
use Rattle.std.proofs.Common.{◌≡◌, ◌∙◌, ◌⊎◌, inl, inr, ℕ, ◌+◌, ◌-◌, ◌<◌, ◌≤◌, Bool, cond, nat_lt, None, List, [], ◌∷◌, map, length, get_or, refl, sym, ap, subst, arith}
use Rattle.std.specs.List.{All, Any, Contains, sum_by}
use Rattle.std.proofs.lemmas.Bool.Decides.{nat_tests}
use Rattle.std.proofs.lemmas.List.Elements.{All-append, All-cons, All-contains, All-head, All-map, All-nil, All-tail, Contains-append_right}
use Rattle.std.proofs.lemmas.List.Sums.{sum_by-cons}
use Rattle.std.proofs.lemmas.Option.{slice_get-get_or, slice_get_within}
use Rattle.jx_base.proofs.Lists.{all_from}
use Rattle.jx_store.specs.declared.event.Taped.{Taped}
use Rattle.jx_store.specs.declared.work.Named.{Named}
use Rattle.jx_store.specs.declared.work.Named.TheVariants.{Bad}
use Rattle.jx_ring.specs.Claims.{taken}
use Rattle.atomic_table.specs.Seated.{TableId}
use Rattle.jx_store.specs.Order.{numbers}
use Rattle.jx_store.specs.Setup.{Setup, end_of}
use Rattle.jx_store.specs.Valid.{IsOf}
use Rattle.jx_store.proofs.NumberLemmas.{length_numbered, number_at}
use Rattle.jx_ring.specs.declared.view.Taken.{Taken}
use Rattle.jx_ring.specs.Passes.{PassView, SawMore, claim_by, commits_claim}
use Rattle.jx_workers.specs.Workers.{IsFree, IsDone}
use Rattle.jx_workers.specs.Stops.{HasStopped, IsBadAt, IsBadBelow, IsPast, IsStop}
use Rattle.jx_workers.proofs.TapeLemmas.{any_all}

module _ (p : Setup) (table : TableId) (workers : ℕ) where
  -- a new store's passes
  pub all_free : (first threads : ℕ) (passes now : List PassView) → p.first ≡ first → workers ≡ threads
      → map (λ (q : PassView). q.worker) passes ≡ numbers 0 threads
      → All (λ (q : PassView). (q.table ≡ table) × (q.holds ≡ None) × (q.claims ≡ []) × (q.drained ≡ first) × (q.next ≡ first)) passes
      → now ≡ passes → All (IsFree p table workers) now
  all_free first threads passes now begins many dealt fresh same = subst (λ (l : List PassView). All (IsFree p table workers) l) (sym same) (λ k d lt.
      let at = slice_get-get_or passes k d lt in
      let is = fresh k d lt in
      let number = number_at (λ (q : PassView). q.worker) passes 0 threads k (get_or passes k d) dealt at in
      let wide = length_numbered (λ (q : PassView). q.worker) passes 0 threads dealt in
      let low = is.3 in
      record {
        mine = is.0;
        worker = omega (arith, number, wide, many, lt);
        holds = is.1;
        low = omega (arith, low, begins);
        seen = subst (λ (claims : List Taken). All (λ (t : Taken). p.first ≤ t.seen) claims) (sym is.2) (All-nil (λ (t : Taken). p.first ≤ t.seen));
      })

  -- a pass whose claim is committed
  pub free_next : (a b c : PassView) (worker number seen kind : ℕ) → IsFree p table workers a → SawMore a b → b.drained ≡ seen → c ≡ commits_claim b (claim_by worker number seen kind) → IsFree p table workers c
  free_next a b c worker number seen kind free saw drained is =
      let t : Taken = claim_by worker number seen kind in
      let low : p.first ≤ seen = omega (arith, free.low, saw.drained, drained) in
      subst (IsFree p table workers) (sym is) (record {
        mine = saw.table ∙ free.mine;
        worker = omega (arith, saw.worker, free.worker);
        holds = refl;
        low = omega (arith, free.low, saw.drained);
        seen = All-append (λ (x : Taken). p.first ≤ x.seen) b.claims (t ∷ []) (subst (All (λ (x : Taken). p.first ≤ x.seen)) (sym saw.claims) free.seen)
            (All-cons (λ (x : Taken). p.first ≤ x.seen) t [] low (All-nil (λ (x : Taken). p.first ≤ x.seen)));
      })

-- ---- where a worker stops
module _ {J : Type 0} (first : ℕ) (jobs : List J) (bad : J → Bool) where
  pub stopped_at : (claims : List Taken) (past : ℕ) → IsPast claims past → IsBadBelow first jobs bad past → HasStopped first jobs bad claims
  stopped_at claims past (inl none) below = absurd (omega (arith, none, below.below))
  stopped_at claims past (inr some) below = record { claim = some.0; there = some.1; by = subst (IsBadBelow first jobs bad) (sym some.2) below }

  -- the word that is told
  pub told_stop : {V : Type 0} (number : V → ℕ) (job : V → J) (k j word : ℕ) (n : Named V) → first ≤ k → IsOf number job bad first jobs k n → n ≡ Bad j → word ≡ k + 1 → IsStop first jobs bad word
  told_stop {V} number job k j word n from of is e =
      let own = subst (λ (x : Named V). IsOf number job bad first jobs k x) is of in
      let here : k ≡ word - 1 = omega (arith, e) in
      inr (subst (IsBadAt first jobs bad) here (record { from = from; job = own.1.0; there = own.1.1; is = own.1.2 }))

  -- what it says
  pub stop_below : (word past : ℕ) → IsStop first jobs bad word → 0 < word → word ≤ past → IsBadBelow first jobs bad past
  stop_below word past (inl none) some low = absurd (omega (arith, none, some))
  stop_below word past (inr is) some low = record { number = word - 1; is = is; below = omega (arith, some, low) }

pub past_none : (claims : List Taken) → IsPast claims 0
past_none claims = inl refl

pub past_next : (b c : PassView) (worker number seen kind past : ℕ) → c ≡ commits_claim b (claim_by worker number seen kind) → past ≡ number + 1 → IsPast c.claims past
past_next b c worker number seen kind past is e =
    let t : Taken = claim_by worker number seen kind in
    inr (t, subst (λ (l : List Taken). Contains l t) (sym (ap (λ (q : PassView). q.claims) is)) (Contains-append_right b.claims (t ∷ []) t (0, omega arith, refl)), sym e)

-- ---- claims and entries
sum_zero : {X : Type 0} (f : X → ℕ) (xs : List X) → sum_by f xs ≡ 0 → All (λ x. f x ≡ 0) xs
sum_zero f [] none = All-nil (λ x. f x ≡ 0)
sum_zero f (x ∷ xs) none =
    let parts = sum_by-cons f x xs in
    All-cons (λ y. f y ≡ 0) x xs (omega (arith, parts, none)) (sum_zero f xs (omega (arith, parts, none)))

zero_sum : {X : Type 0} (f : X → ℕ) (xs : List X) → All (λ x. f x ≡ 0) xs → sum_by f xs ≡ 0
zero_sum f [] each = refl
zero_sum f (x ∷ xs) each =
    let parts = sum_by-cons f x xs in let here : f x ≡ 0 = All-head (λ y. f y ≡ 0) x xs each in let later = zero_sum f xs (All-tail (λ y. f y ≡ 0) x xs each) in
    omega (arith, parts, here, later)

abbrev above : ℕ → Taken → ℕ
above past t = cond (nat_lt t.number past) 0 1

above_none : (past : ℕ) (t : Taken) → t.number < past → above past t ≡ 0
above_none past t lt = grind (arith, nat_tests, lt)

none_above : (past : ℕ) (t : Taken) → above past t ≡ 0 → t.number < past
none_above past t none = grind (arith, nat_tests, none)

-- each claim of a pass stands on the tape
pub claims_below : (past : ℕ) (entries : List Taken) (passes : List PassView) → ((F : Taken → ℕ) → sum_by F entries ≡ sum_by (λ (q : PassView). sum_by F q.claims) passes)
    → All (λ (t : Taken). t.number < past) entries → All (λ (q : PassView). All (λ (t : Taken). t.number < past) q.claims) passes
claims_below past entries passes same below =
    let none : sum_by (above past) entries ≡ 0 = zero_sum (above past) entries (λ k d lt. above_none past (get_or entries k d) (below k d lt)) in
    let each = sum_zero (λ (q : PassView). sum_by (above past) q.claims) passes (sym (same (above past)) ∙ none) in
    λ k d lt. λ i t inside. none_above past (get_or (get_or passes k d).claims i t) (sum_zero (above past) (get_or passes k d).claims (each k d lt) i t inside)

pub entries_below : {V : Type 0} (first : ℕ) (entries : List (Taped (Named V))) → map (λ (t : Taped (Named V)). t.number) entries ≡ numbers first (length entries)
    → All (λ (t : Taken). t.number < first + length entries) (map taken entries)
entries_below {V} first entries order = All-map (λ (t : Taken). t.number < first + length entries) taken entries (all_from (λ (t : Taped (Named V)). t.number < first + length entries) entries (λ i t at.
    omega (arith, number_at (λ (x : Taped (Named V)). x.number) entries first (length entries) i t order at, slice_get_within entries i t at)))

-- ---- passes whose workers stopped
module _ {J : Type 0} (p : Setup) (jobs : List J) (bad : J → Bool) (table : TableId) (workers : ℕ) where
  -- all numbers are on the tape, or one that isn't below a bad job's
  pub ended : (passes : List PassView) (count : ℕ) → 0 < length passes → All (IsDone p jobs bad table workers) passes → (Any (λ (q : PassView). q.next ≡ end_of p) passes → count ≡ length p.sizes)
      → All (λ (q : PassView). All (λ (t : Taken). t.number < p.first + count) q.claims) passes → (count ≡ length p.sizes) ⊎ IsBadBelow p.first jobs bad (p.first + count)
  ended [] count some done whole below = absurd (omega (arith, some))
  ended (q ∷ qs) count some done whole below =
      let first = All-head (IsDone p jobs bad table workers) q qs done in
      elim first.all [
        | inl all ↦ inl (whole (0, q, omega arith, refl, all))
        | inr has ↦
            let own = All-head (λ (x : PassView). All (λ (t : Taken). t.number < p.first + count) x.claims) q qs below in
            let low : has.claim.number < p.first + count = All-contains (λ (t : Taken). t.number < p.first + count) q.claims has.claim own has.there in
            inr (record { number = has.by.number; is = has.by.is; below = omega (arith, has.by.below, low) })
      ]

  -- the worker of a claim, and what it saw
  pub worker_of : (passes : List PassView) (worker : ℕ) (t : Taken) → All (IsDone p jobs bad table workers) passes → Any (λ (q : PassView). (q.worker ≡ worker) × Contains q.claims t) passes
      → (worker < workers) × (p.first ≤ t.seen)
  worker_of passes worker t done who =
      let one = any_all (IsDone p jobs bad table workers) (λ (q : PassView). (q.worker ≡ worker) × Contains q.claims t) passes done who in
      let own = one.1.free.worker in let same = one.2.0 in
      (omega (arith, own, same), All-contains (λ (x : Taken). p.first ≤ x.seen) one.0.claims t one.1.free.seen one.2.1)
