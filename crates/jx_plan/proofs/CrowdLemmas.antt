-- The search for a block of which a layer has too many passes.
use Rattle.std.proofs.Common.{◌≡◌, ◌<◌, ◌≤◌, ◌+◌, ◌∙◌, ap, sym, subst, arith, ℕ, List, length, inl, inr, slice_index_or, Some}
use Rattle.std.specs.List.{slice_get}
use Rattle.std.proofs.lemmas.Bool.{cases_lt}
use Rattle.std.proofs.lemmas.Option.{slice_get-get_or, slice_get_past}
use Rattle.jx_codeblock.specs.declared.job.Job.{Job}
use Rattle.jx_plan.specs.Layers.{HasMany}
use Rattle.jx_plan.specs.Crowded.{IsCrowded}

-- none before n is crowded
abbrev pub NoneBefore : List Job → ℕ → Type 0
NoneBefore jobs n = (k : ℕ) → k < n → IsCrowded (slice_get jobs k) → ⊥

pub none_crowded : (jobs : List Job) (n : ℕ) → length jobs ≤ n → NoneBefore jobs n → (k : ℕ) → IsCrowded (slice_get jobs k) → ⊥
none_crowded jobs n le none k crowded = elim (cases_lt k n) [
  | inl lt ↦ none k lt crowded
  | inr ge ↦ subst IsCrowded (slice_get_past jobs k (omega arith)) crowded
]

pub is_crowded : (jobs : List Job) (n : ℕ) (job : Job) → n < length jobs → job ≡ slice_index_or jobs n job → HasMany 0 job.ends → IsCrowded (slice_get jobs n)
is_crowded jobs n job lt at many = subst IsCrowded (ap Some at ∙ sym (slice_get-get_or jobs n job lt)) many

pub still_none : (jobs : List Job) (n : ℕ) (job : Job) → n < length jobs → job ≡ slice_index_or jobs n job → (HasMany 0 job.ends → ⊥) → NoneBefore jobs n → NoneBefore jobs (n + 1)
still_none jobs n job lt at few none k below crowded = elim (cases_lt k n) [
  | inl before ↦ none k before crowded
  | inr ge ↦
      let same : k ≡ n = omega arith in
      let here : slice_get jobs k ≡ Some job = ap (λ m. slice_get jobs m) same ∙ slice_get-get_or jobs n job lt ∙ ap Some (sym at) in
      few (subst IsCrowded here crowded)
]
