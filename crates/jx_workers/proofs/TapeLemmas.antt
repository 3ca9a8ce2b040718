-- From the entries of a store to the tape of jobs.
use Rattle.std.proofs.Common.{◌≡◌, ◌⊎◌, inl, inr, ℕ, zero, suc, ◌+◌, ◌-◌, ◌<◌, ◌≤◌, true, Option, Some, None, List, [], ◌∷◌, ◌++◌, map, length, take, get_or, refl, sym, ap, subst, ◌∙◌, arith}
use Rattle.std.specs.List.{All, Any, slice_get}
use Rattle.std.specs.Option.{option_map}
use Rattle.std.proofs.lemmas.List.{length-map, length-take-le, take-map}
use Rattle.std.proofs.lemmas.List.Elements.{All-contains, All-take}
use Rattle.std.proofs.lemmas.Option.{none-some, same_Some, get_or_from_slice_get, slice_get-get_or, slice_get-map}
use Rattle.std.proofs.Math.Seq.{take-append_seam}
use Rattle.jx_base.proofs.Lists.{all_from}
use Rattle.jx_store.specs.declared.event.Taped.{Taped}
use Rattle.jx_store.specs.declared.work.Named.{Named}
use Rattle.jx_store.specs.declared.work.Named.TheVariants.{Made, Bad, Short}
use Rattle.jx_store.specs.Order.{numbers}
use Rattle.jx_store.specs.Setup.{Within}
use Rattle.jx_store.specs.Valid.{IsOf}
use Rattle.jx_store.proofs.NumberLemmas.{length_numbers, number_at, numbers_then}
use Rattle.jx_codeblock.specs.declared.job.Job.{Job}
use Rattle.jx_codeblock.specs.Recoded.{WrittenBlock, recoding_in, is_bad}
use Rattle.jx_codeblock.proofs.AnewLemmas.{bad_is}
use Rattle.jx_workers.specs.Tapes.{AreAsked, IsJob, IsTape, IsTapeOf, answer_of, named_as, bounds, size_of, up_to_bad}
use Rattle.jx_workers.specs.Told.{is_anew}
use Rattle.jx_workers.specs.Committed.{IsCommitted, IsRightFront}
use Rattle.jx_workers.specs.Stops.{IsBadBelow}
use Rattle.jx_workers.proofs.FrontLemmas.{IsNamed, front_answers}
use Rattle.jx_base.specs.Limits.{most_bytes}

-- an item with two properties
pub any_all : {X : Type 0} (P Q : X → Type 0) (xs : List X) → All P xs → Any Q xs → (x : X) × P x × Q x
any_all P Q xs all any = (any.1, All-contains P xs any.1 all (any.0, any.2, any.3), any.4)

module _ (first i k : ℕ) (jobs : List Job) (place : k ≡ first + i) (asked : AreAsked first jobs) where
  job_here : (o : Job) → slice_get jobs (k - first) ≡ Some o → slice_get jobs i ≡ Some o
  job_here o there =
      let e : k - first ≡ i = omega (arith, place) in
      subst (λ (m : ℕ). slice_get jobs m ≡ Some o) e there

  -- what stands under a job's number is the answer to it
  pub answered : (n : Named WrittenBlock) → IsOf (λ (r : WrittenBlock). r.job.number) (λ (r : WrittenBlock). r.job) is_bad first jobs k n → IsNamed n → (j : Job) × (slice_get jobs i ≡ Some j) × (n ≡ answer_of j)
  answered (Made r) of (inl right) =
      let made : named_as r.job (recoding_in r.job) ≡ Made r = ap (named_as r.job) (sym right) in
      (r.job, job_here r.job of.1, sym made)
  answered (Made r) of (inr bad) = absurd bad
  answered (Bad m) of (inl right) = absurd right
  answered (Bad m) of (inr bad) =
      let j = of.1.0 in
      let at = job_here j of.1.1 in
      let number : m ≡ j.number = of.0 ∙ place ∙ sym (asked i j at).numbered in
      (j, at, ap (λ (q : ℕ). Bad q) number ∙ ap (named_as j) (sym (bad_is j of.1.2)))
  answered (Short m) of (inl right) = absurd right
  answered (Short m) of (inr bad) = absurd bad

some_mapped : {X Y : Type 0} (f : X → Y) (o : Option X) (y : Y) → option_map f o ≡ Some y → (x : X) × (o ≡ Some x) × (y ≡ f x)
some_mapped f None y e = absurd (none-some y e)
some_mapped f (Some x) y e = (x, refl, sym (same_Some (f x) y e))

front_few : (names : List (Named WrittenBlock)) (n : ℕ) → IsRightFront names n → n ≤ length names
front_few [] n front = omega (arith, front)
front_few (x ∷ names) zero front = absurd front
front_few (x ∷ names) (suc n) (inl right) = let later = front_few names n right.1 in omega (arith, later)
front_few (x ∷ names) (suc n) (inr bad) = omega (arith, bad.1)

take_numbers : (a n m : ℕ) → n ≤ m → take n (numbers a m) ≡ numbers a n
take_numbers a n m low =
    let rest : ℕ = m - n in
    let whole : n + rest ≡ m = omega (arith, low) in
    ap (λ (k : ℕ). take n (numbers a k)) (sym whole) ∙ ap (take n) (sym (numbers_then a n rest)) ∙ ap (λ (k : ℕ). take k (numbers a n ++ numbers (a + n) rest)) (sym (length_numbers a n)) ∙ take-append_seam (numbers a n) (numbers (a + n) rest)

-- the entries of a store, up to the first bad one, are the tape of its jobs
pub tape_is : (jobs : List Job) (first threads window most count : ℕ) (entries : List (Taped (Named WrittenBlock)))
    → AreAsked first jobs → map (λ (t : Taped (Named WrittenBlock)). t.number) entries ≡ numbers first (length entries)
    → ((i : ℕ) (t : Taped (Named WrittenBlock)) → slice_get entries i ≡ Some t → (t.worker < threads) × (first ≤ t.seen) × Within (bounds first window most jobs) t.seen t.number
    × IsOf (λ (r : WrittenBlock). r.job.number) (λ (r : WrittenBlock). r.job) is_bad first jobs t.number t.named)
    → (length entries ≡ length jobs) ⊎ IsBadBelow first jobs is_bad (first + length entries)
    → IsRightFront (map (λ (t : Taped (Named WrittenBlock)). t.named) entries) count → IsTape jobs first threads window most (take count entries)
tape_is jobs first threads window most count entries asked order each ended front =
    let number : Taped (Named WrittenBlock) → ℕ = λ t. t.number in
    let named : Taped (Named WrittenBlock) → Named WrittenBlock = λ t. t.named in
    let few : count ≤ length entries = omega (arith, front_few (map named entries) count front, length-map entries named) in
    let answers : map named (take count entries) ≡ map answer_of (up_to_bad jobs) = sym (take-map named count entries) ∙ front_answers (map named entries) jobs count
    (λ i x at is.
    let entry = some_mapped named (slice_get entries i) x (sym (slice_get-map named entries i) ∙ at) in
    let place = number_at number entries first (length entries) i entry.0 order entry.1 in
    answered first i entry.0.number jobs place asked x (subst (λ (n : Named WrittenBlock). IsOf (λ (r : WrittenBlock). r.job.number) (λ (r : WrittenBlock). r.job) is_bad first jobs entry.0.number n) (sym entry.2) (each i entry.0 entry.1).3) is)
    (ended_as ended) front in
    let long : count ≡ length (up_to_bad jobs) = sym (length-take-le count entries few) ∙ sym (length-map (take count entries) named) ∙ ap (λ (l : List (Named WrittenBlock)). length l) answers ∙ length-map (up_to_bad jobs) answer_of in
    record {
      order = sym (take-map number count entries) ∙ ap (take count) order ∙ take_numbers first count (length entries) few ∙ ap (numbers first) long;
      answers = answers;
      workers = All-take (λ (t : Taped (Named WrittenBlock)). t.worker < threads) count entries (all_from (λ (t : Taped (Named WrittenBlock)). t.worker < threads) entries (λ i t at. (each i t at).0));
      within = All-take (λ (t : Taped (Named WrittenBlock)). Within (bounds first window most jobs) t.seen t.number) count entries (all_from (λ (t : Taped (Named WrittenBlock)). Within (bounds first window most jobs) t.seen t.number) entries (λ i t at. (each i t at).2));
      from = All-take (λ (t : Taped (Named WrittenBlock)). first ≤ t.seen) count entries (all_from (λ (t : Taped (Named WrittenBlock)). first ≤ t.seen) entries (λ i t at. (each i t at).1));
    }
  where
    ended_as : (length entries ≡ length jobs) ⊎ IsBadBelow first jobs is_bad (first + length entries) → (length (map (λ (t : Taped (Named WrittenBlock)). t.named) entries) ≡ length jobs)
        ⊎ ((i : ℕ) × (j : Job) × (slice_get jobs i ≡ Some j) × (is_bad j ≡ true) × (i < length (map (λ (t : Taped (Named WrittenBlock)). t.named) entries)))
    ended_as (inl whole) = inl (length-map entries (λ t. t.named) ∙ whole)
    ended_as (inr bad) = inr (bad.number - first, bad.is.job, bad.is.there, bad.is.is, omega (arith, bad.below, bad.is.from, length-map entries (λ (t : Taped (Named WrittenBlock)). t.named)))

-- ---- what a worker knows of a number
module _ (first : ℕ) (jobs : List Job) (k n : ℕ) (d : Job) where
  there : first ≤ k → k < first + length jobs → n ≡ k → slice_get jobs (n - first) ≡ Some (get_or jobs (n - first) d)
  there low high e = slice_get-get_or jobs (n - first) d (omega (arith, low, high, e))

  pub asked_at : AreAsked first jobs → first ≤ k → k < first + length jobs → n ≡ k → IsJob k (get_or jobs (n - first) d)
  asked_at asked low high e =
      let number : first + (n - first) ≡ k = omega (arith, low, e) in
      subst (λ (m : ℕ). IsJob m (get_or jobs (n - first) d)) number (asked (n - first) (get_or jobs (n - first) d) (there low high e))

  -- whether the gate is told of it
  pub told_at : (j : Job) → n ≡ k → slice_get jobs (k - first) ≡ Some j → is_anew (get_or jobs (n - first) d) ≡ is_anew j
  told_at j e at =
      let here = subst (λ (m : ℕ). slice_get jobs (m - first) ≡ Some j) (sym e) at in
      ap is_anew (get_or_from_slice_get jobs (n - first) j d here)

module _ (first : ℕ) (jobs : List Job) (k n : ℕ) (d : Job) where
  -- what is committed for its job is of the number
  pub committed_of : (x : Named WrittenBlock) → AreAsked first jobs → first ≤ k → k < first + length jobs → n ≡ k → IsCommitted (get_or jobs (n - first) d) x
      → IsOf (λ (r : WrittenBlock). r.job.number) (λ (r : WrittenBlock). r.job) is_bad first jobs k x
  committed_of (Made r) asked low high e is =
      let j = get_or jobs (n - first) d in
      let number = (asked_at first jobs k n d asked low high e).numbered in
      let at = subst (λ (m : ℕ). slice_get jobs (m - first) ≡ Some j) e (there first jobs k n d low high e) in
      (ap (λ (x : Job). x.number) is ∙ number, at ∙ ap Some (sym is))
  committed_of (Bad m) asked low high e is =
      let j = get_or jobs (n - first) d in
      let number = (asked_at first jobs k n d asked low high e).numbered in
      let at = subst (λ (m : ℕ). slice_get jobs (m - first) ≡ Some j) e (there first jobs k n d low high e) in
      (is.0 ∙ number, (j, at, is.1))
  committed_of (Short m) asked low high e is = is ∙ (asked_at first jobs k n d asked low high e).numbered

-- no block of a job has many bytes
pub few_bytes : (first : ℕ) (jobs : List Job) → AreAsked first jobs → All (λ (j : Job). size_of j ≤ most_bytes) jobs
few_bytes first jobs asked k d lt = (asked k (get_or jobs k d) (slice_get-get_or jobs k d lt)).asked.sound.bytes

pub one_tape : (jobs : List Job) (a b : List (Taped (Named WrittenBlock))) → IsTapeOf jobs a → IsTapeOf jobs b
    → map (λ (t : Taped (Named WrittenBlock)). t.named) a ≡ map (λ (t : Taped (Named WrittenBlock)). t.named) b
one_tape jobs a b x y = x.is.answers ∙ sym y.is.answers
