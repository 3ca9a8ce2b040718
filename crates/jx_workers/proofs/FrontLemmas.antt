-- The front of what was committed, up to the first bad job.
use Rattle.std.proofs.Common.{◌≡◌, ◌≢◌, ◌∙◌, ◌⊎◌, inl, inr, ℕ, zero, suc, ◌+◌, ◌<◌, ◌≤◌, true, false, true≢false, Some, None, Option, List, [], ◌∷◌, take, drop, map, length, refl, sym, ap, subst, arith, slice_index_or}
use Rattle.std.specs.List.{slice_get}
use Rattle.std.proofs.Math.Seq.{drop-cons}
use Rattle.std.proofs.lemmas.Bool.{cases_Bool}
use Rattle.std.proofs.lemmas.List.{drop_all}
use Rattle.std.proofs.lemmas.Option.{none-some, same_Some}
use Rattle.jx_store.specs.declared.event.Taped.{Taped}
use Rattle.jx_store.specs.declared.work.Named.{Named}
use Rattle.jx_store.specs.declared.work.Named.TheVariants.{Made, Bad, Short}
use Rattle.jx_codeblock.specs.declared.job.Job.{Job}
use Rattle.jx_codeblock.specs.Recoded.{WrittenBlock, recoding_in, is_bad}
use Rattle.jx_codeblock.specs.Recoding.{Recoding}
use Rattle.jx_codeblock.proofs.AnewLemmas.{bad_is, nothing_is_bad}
use Rattle.jx_workers.specs.Committed.{IsBadOne, IsRight, IsRightFront}
use Rattle.jx_workers.specs.Tapes.{answer_of, named_as, up_to_bad}
use Rattle.jx_workers.proofs.UpToLemmas.{one_bad, one_fine}

-- ---- entry by entry
module _ (entries : List (Taped (Named WrittenBlock))) (i : ℕ) (front : (n : ℕ) → IsRightFront (map (λ (t : Taped (Named WrittenBlock)). t.named) (drop i entries)) n → IsRightFront (map (λ (t : Taped (Named WrittenBlock)). t.named) entries) (i + n)) where
  module _ (t : Taped (Named WrittenBlock)) (lt : i < length entries) (is : t ≡ slice_index_or entries i t) where
    here : drop i entries ≡ t ∷ drop (i + 1) entries
    here =
        let next : suc i ≡ i + 1 = omega arith in
        drop-cons entries i t lt ∙ ap (λ z. z ∷ drop (suc i) entries) (sym is) ∙ ap (λ (n : ℕ). t ∷ drop n entries) next

    whole : (n : ℕ) → IsRightFront (map (λ (x : Taped (Named WrittenBlock)). x.named) (t ∷ drop (i + 1) entries)) n → IsRightFront (map (λ (x : Taped (Named WrittenBlock)). x.named) entries) (i + n)
    whole n is' = front n (subst (λ (l : List (Taped (Named WrittenBlock))). IsRightFront (map (λ (x : Taped (Named WrittenBlock)). x.named) l) n) (sym here) is')

    pub front_more : IsRight t.named → (n : ℕ) → IsRightFront (map (λ (x : Taped (Named WrittenBlock)). x.named) (drop (i + 1) entries)) n → IsRightFront (map (λ (x : Taped (Named WrittenBlock)). x.named) entries) (i + 1 + n)
    front_more right n rest =
        let next : i + suc n ≡ i + 1 + n = omega arith in
        subst (IsRightFront (map (λ (x : Taped (Named WrittenBlock)). x.named) entries)) next (whole (suc n) (inl (right, rest)))

    pub front_bad : IsBadOne t.named → IsRightFront (map (λ (x : Taped (Named WrittenBlock)). x.named) entries) (i + 1)
    front_bad bad = whole 1 (inr (bad, refl))

  pub front_end : length entries ≤ i → IsRightFront (map (λ (x : Taped (Named WrittenBlock)). x.named) entries) i
  front_end past =
      let none : drop i entries ≡ [] = drop_all i entries past in
      let same : i + 0 ≡ i = omega arith in
      subst (IsRightFront (map (λ (x : Taped (Named WrittenBlock)). x.named) entries)) same (front 0 (subst (λ (l : List (Taped (Named WrittenBlock))). IsRightFront (map (λ (x : Taped (Named WrittenBlock)). x.named) l) 0) (sym none) refl))

pub front_none : (entries : List (Taped (Named WrittenBlock))) (n : ℕ) → IsRightFront (map (λ (t : Taped (Named WrittenBlock)). t.named) entries) n → IsRightFront (map (λ (t : Taped (Named WrittenBlock)). t.named) entries) (0 + n)
front_none entries n is =
    let same : n ≡ 0 + n = omega arith in
    subst (IsRightFront (map (λ (t : Taped (Named WrittenBlock)). t.named) entries)) same is

-- ---- against the jobs
-- a committed name that isn't want of memory is the answer to its job
abbrev pub IsNamed : Named WrittenBlock → Type 0
IsNamed x = IsRight x ⊎ IsBadOne x

right_fine : (x : Named WrittenBlock) (j : Job) (o : Option Recoding) → IsRight x → x ≡ named_as j o → o ≢ None
right_fine (Made r) j None right e = λ _. absurd (cc)
right_fine (Made r) j (Some q) right e = λ none. absurd (cc)
right_fine (Bad k) j o right e = absurd right
right_fine (Short k) j o right e = absurd right

bad_none : (x : Named WrittenBlock) (j : Job) (o : Option Recoding) → IsBadOne x → x ≡ named_as j o → o ≡ None
bad_none (Made r) j o bad e = absurd bad
bad_none (Bad k) j None bad e = refl
bad_none (Bad k) j (Some q) bad e = absurd (cc)
bad_none (Short k) j o bad e = absurd bad

-- the names up to the first bad one are the answers to the jobs up to the first bad one
pub front_answers : (names : List (Named WrittenBlock)) (jobs : List Job) (n : ℕ)
    → ((i : ℕ) (x : Named WrittenBlock) → slice_get names i ≡ Some x → IsNamed x → (j : Job) × (slice_get jobs i ≡ Some j) × (x ≡ answer_of j))
    → (length names ≡ length jobs) ⊎ ((i : ℕ) × (j : Job) × (slice_get jobs i ≡ Some j) × (is_bad j ≡ true) × (i < length names))
    → IsRightFront names n → take n names ≡ map answer_of (up_to_bad jobs)
front_answers [] [] n each ended front = rw front refl
front_answers [] (j ∷ jobs) n each (inl same) front = absurd (omega (arith, same))
front_answers [] (j ∷ jobs) n each (inr some) front = absurd (omega (arith, some.4))
front_answers (x ∷ names) jobs zero each ended front = absurd front
front_answers (x ∷ names) [] (suc n) each ended (inl right) = absurd (none-some _ (each 0 x refl (inl right.0)).1)
front_answers (x ∷ names) [] (suc n) each ended (inr bad) = absurd (none-some _ (each 0 x refl (inr bad.0)).1)
front_answers (x ∷ names) (j ∷ jobs) (suc n) each ended (inr bad) =
    let at = each 0 x refl (inr bad.0) in
    let own : j ≡ at.0 = same_Some j at.0 at.1 in
    let is : x ≡ answer_of j = at.2 ∙ ap answer_of (sym own) in
    let wrong = nothing_is_bad j (bad_none x j (recoding_in j) bad.0 is) in
    ap (λ (k : ℕ). take (suc k) (x ∷ names)) bad.1 ∙ ap (λ (z : Named WrittenBlock). z ∷ []) is ∙ sym (ap (map answer_of) (one_bad j jobs wrong))
front_answers (x ∷ names) (j ∷ jobs) (suc n) each ended (inl right) =
    let at = each 0 x refl (inl right.0) in
    let own : j ≡ at.0 = same_Some j at.0 at.1 in
    let is : x ≡ answer_of j = at.2 ∙ ap answer_of (sym own) in
    let fine : is_bad j ≡ false = elim (cases_Bool (is_bad j)) [
      | inl wrong ↦ absurd (right_fine x j (recoding_in j) right.0 is (bad_is j wrong))
      | inr fine ↦ fine
    ] in
    let later = front_answers names jobs n (λ i y there of. each (suc i) y there of) (ended_next ended fine) right.1 in
    ap (λ (z : Named WrittenBlock). z ∷ take n names) is ∙ ap (λ (l : List (Named WrittenBlock)). answer_of j ∷ l) later ∙ sym (ap (map answer_of) (one_fine j jobs fine))
  where
    ended_next : (length (x ∷ names) ≡ length (j ∷ jobs)) ⊎ ((i : ℕ) × (k : Job) × (slice_get (j ∷ jobs) i ≡ Some k) × (is_bad k ≡ true) × (i < length (x ∷ names))) → is_bad j ≡ false
        → (length names ≡ length jobs) ⊎ ((i : ℕ) × (k : Job) × (slice_get jobs i ≡ Some k) × (is_bad k ≡ true) × (i < length names))
    ended_next (inl same) fine = inl (omega (arith, same))
    ended_next (inr (zero, k, there, wrong, low)) fine = absurd (true≢false (sym wrong ∙ ap is_bad (sym (same_Some j k there)) ∙ fine))
    ended_next (inr (suc i, k, there, wrong, low)) fine = inr (i, k, there, wrong, omega (arith, low))
