-- Jobs up to the first that is bad, and what a name says of its job.
use Rattle.std.proofs.Common.{◌≡◌, ◌≢◌, ◌∙◌, inl, inr, ℕ, zero, suc, ◌≤◌, true, false, Some, None, Option, List, [], ◌∷◌, take, length, refl, sym, ap, arith}
use Rattle.std.specs.List.{slice_get}
use Rattle.std.proofs.lemmas.Bool.{cases_Bool}
use Rattle.std.proofs.lemmas.Option.{none-some}
use Rattle.jx_store.specs.declared.work.Named.TheVariants.{Made, Bad, Short}
use Rattle.jx_codeblock.specs.declared.job.Job.{Job}
use Rattle.jx_codeblock.specs.Recoded.{WrittenBlock, recoding_in, is_bad}
use Rattle.jx_codeblock.specs.Recoding.{Recoding}
use Rattle.jx_codeblock.proofs.AnewLemmas.{bad_is, nothing_is_bad}
use Rattle.jx_workers.specs.Tapes.{answer_of, named_as, up_to_bad}

-- ---- jobs up to the first bad one
pub one_bad : (j : Job) (rest : List Job) → is_bad j ≡ true → up_to_bad (j ∷ rest) ≡ j ∷ []
one_bad j rest bad = rw bad refl

pub one_fine : (j : Job) (rest : List Job) → is_bad j ≡ false → up_to_bad (j ∷ rest) ≡ j ∷ up_to_bad rest
one_fine j rest fine = rw fine refl

pub up_to_at : (jobs : List Job) (i : ℕ) (j : Job) → slice_get (up_to_bad jobs) i ≡ Some j → slice_get jobs i ≡ Some j
up_to_at [] i j at = absurd (none-some j at)
up_to_at (x ∷ jobs) zero j at = at
up_to_at (x ∷ jobs) (suc i) j at = elim (cases_Bool (is_bad x)) [
  | inl bad ↦ absurd (none-some j (sym (ap (λ (l : List Job). slice_get l (suc i)) (one_bad x jobs bad)) ∙ at))
  | inr fine ↦ up_to_at jobs i j (sym (ap (λ (l : List Job). slice_get l (suc i)) (one_fine x jobs fine)) ∙ at)
]

pub up_to_few : (jobs : List Job) → length (up_to_bad jobs) ≤ length jobs
up_to_few [] = omega arith
up_to_few (x ∷ jobs) = elim (cases_Bool (is_bad x)) [
  | inl bad ↦ omega (arith, ap (λ (l : List Job). length l) (one_bad x jobs bad))
  | inr fine ↦ omega (arith, ap (λ (l : List Job). length l) (one_fine x jobs fine), up_to_few jobs)
]

pub up_to_take : (jobs : List Job) → up_to_bad jobs ≡ take (length (up_to_bad jobs)) jobs
up_to_take [] = refl
up_to_take (x ∷ jobs) = elim (cases_Bool (is_bad x)) [
  | inl bad ↦ one_bad x jobs bad ∙ ap (λ (l : List Job). take (length l) (x ∷ jobs)) (sym (one_bad x jobs bad))
  | inr fine ↦ one_fine x jobs fine ∙ ap (λ (l : List Job). x ∷ l) (up_to_take jobs) ∙ ap (λ (l : List Job). take (length l) (x ∷ jobs)) (sym (one_fine x jobs fine))
]

-- ---- what a name says of its job
pub fine_made : (r : WrittenBlock) (j : Job) → Made r ≡ answer_of j → is_bad j ≡ false
fine_made r j is = elim (cases_Bool (is_bad j)) [
  | inl bad ↦ absurd (made_none r j (recoding_in j) is (bad_is j bad))
  | inr fine ↦ fine
]
  where
    made_none : (r : WrittenBlock) (j : Job) (o : Option Recoding) → Made r ≡ named_as j o → o ≢ None
    made_none r j None e = λ _. absurd (cc)
    made_none r j (Some q) e = λ none. absurd (cc)

pub bad_unmade : (k : ℕ) (j : Job) → Bad k ≡ answer_of j → is_bad j ≡ true
bad_unmade k j is = nothing_is_bad j (none_there (recoding_in j) is)
  where
    none_there : (o : Option Recoding) → Bad k ≡ named_as j o → o ≡ None
    none_there None e = refl
    none_there (Some q) e = absurd (cc)

pub short_never : (k : ℕ) (j : Job) → Short k ≡ answer_of j → ⊥
short_never k j is = never k j (recoding_in j) is
  where
    never : (k : ℕ) (j : Job) (o : Option Recoding) → Short k ≡ named_as j o → ⊥
    never k j None e = cc
    never k j (Some q) e = cc
