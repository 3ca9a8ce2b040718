-- How often planners are asked: by the steps of a plan, and in a list of which the first that serves is asked.
use Rattle.std.proofs.Common.{◌≡◌, ◌<◌, ◌≤◌, ◌+◌, ℕ, zero, suc, Bool, true, false, arith, List, [], ◌∷◌, length, take, refl, subst, inl, inr, slice_index_or, slice_set, Option, None, Result, IfErr, MatchBool, MatchResult, Ok, Err}
use Rattle.jx_codeblock.specs.declared.job.Job.{Job}
use Rattle.jx_codestream.specs.declared.Stream.{Stream}
use Rattle.jx_plan.specs.declared.faults.PlanFault.{PlanFault}
use Rattle.jx_plan.specs.declared.faults.PlanFault.TheVariants as fault
use Rattle.jx_plan.specs.Planned.{chosen}
use Rattle.jx_plan.specs.Questions.{AtFirst, HasNone, IsAskedAfter, IsFirstOf}
use Rattle.jx_plan.specs.Steps.{IsTooMuch}
use Rattle.jx_options.specs.Wanted.{Wanted}
use Rattle.jx_plan.specs.Causes.{IsLate}

-- choices 5, 10 and 11 are no choice below 4 and not choice 6
late_asked : (s : Stream) (w : Wanted) (layers number place : ℕ) → IsLate s w layers number place → (4 ≤ number) × (number ≡ 6 → ⊥)
late_asked s w layers number place (inl five) = (omega (arith, five.0), λ six. omega (arith, six, five.0))
late_asked s w layers number place (inr (inl ten)) = (omega (arith, ten.0), λ six. omega (arith, six, ten.0))
late_asked s w layers number place (inr (inr eleven)) = (omega (arith, eleven.0), λ six. omega (arith, six, eleven.0))

-- limit 7 and the choices 4, 5, 10 and 11 come after all questions
pub much_asked : (s : Stream) (w : Wanted) (layers : ℕ) (jobs : List Job) (before all now : ℕ) (e : PlanFault) → now ≡ all → IsTooMuch s w layers jobs e → IsAskedAfter before all e now
much_asked s w layers jobs before all now (fault.Choice number place) is (inl twelve) = inr (inl (omega (arith, twelve.0), (λ six. omega (arith, six, twelve.0)), is))
much_asked s w layers jobs before all now (fault.Choice number place) is (inr (inl four)) = inr (inl (omega (arith, four.0), (λ six. omega (arith, six, four.0)), is))
much_asked s w layers jobs before all now (fault.Choice number place) is (inr (inr late)) = let asked = late_asked s w layers number place late.0 in inr (inl (asked.0, asked.1, is))
much_asked s w layers jobs before all now (fault.Limit number found) is much = is
much_asked s w layers jobs before all now fault.NoMemory is much = inr (omega (arith, is))

pub asked_by : {X : Type 0} (s : Stream) (w : Wanted) (layers : ℕ) (jobs : List Job) (before all now : ℕ) (r : Result X PlanFault) → now ≡ all → IfErr r (IsTooMuch s w layers jobs)
    → MatchResult r (λ x. now ≡ all) (λ e. IsAskedAfter before all e now)
asked_by s w layers jobs before all now (Ok x) is much = is
asked_by s w layers jobs before all now (Err e) is much = much_asked s w layers jobs before all now e is much

module _ {X : Type 0} (p : X → Bool) where
  -- ---- a loop along a list
  none_after : (xs : List X) (i : ℕ) (d : X) → i < length xs → p (slice_index_or xs i d) ≡ false → HasNone p (take i xs) → HasNone p (take (suc i) xs)
  none_after [] i d lt none before = absurd (omega arith)
  none_after (x ∷ xs) zero d lt none before = (none, tt)
  none_after (x ∷ xs) (suc i) d lt none before = (before.0, none_after xs i d (omega arith) none before.1)

  pub none_more : (xs : List X) (i : ℕ) (d : X) → i < length xs → p (slice_index_or xs i d) ≡ false → HasNone p (take i xs) → HasNone p (take (i + 1) xs)
  none_more xs i d lt none before =
      let next : suc i ≡ i + 1 = omega arith in
      subst (λ (n : ℕ). HasNone p (take n xs)) next (none_after xs i d lt none before)

  pub first_at : (xs : List X) (i : ℕ) (d : X) → i < length xs → p (slice_index_or xs i d) ≡ true → HasNone p (take i xs) → IsFirstOf p xs i
  first_at [] i d lt passes before = absurd (omega arith)
  first_at (x ∷ xs) zero d lt passes before = passes
  first_at (x ∷ xs) (suc i) d lt passes before = (before.0, first_at xs i d (omega arith) passes before.1)

  pub none_all : (xs : List X) (i : ℕ) → length xs ≤ i → HasNone p (take i xs) → HasNone p xs
  none_all [] i le before = tt
  none_all (x ∷ xs) zero le before = absurd (omega arith)
  none_all (x ∷ xs) (suc i) le before = (before.0, none_all xs i (omega arith) before.1)

  -- ---- what is chosen
  pub chosen_at : {Y : Type 0} (f : X → Option Y) (xs : List X) (i : ℕ) (d : X) → IsFirstOf p xs i → chosen p f xs ≡ f (slice_index_or xs i d)
  chosen_at f [] i d first = absurd first
  chosen_at f (x ∷ xs) zero d first = rw first refl
  chosen_at f (x ∷ xs) (suc i) d first = rw first.0 (chosen_at f xs i d first.1)

  pub chosen_none : {Y : Type 0} (f : X → Option Y) (xs : List X) → HasNone p xs → chosen p f xs ≡ None
  chosen_none f [] none = refl
  chosen_none f (x ∷ xs) none = rw none.0 (chosen_none f xs none.1)

  -- ---- which is asked
  module _ (holds : X → X → Type 0) where
    pub at_first : (xs : List X) (i : ℕ) (d y : X) → IsFirstOf p xs i → holds (slice_index_or xs i d) y → AtFirst p holds xs (slice_set xs i y)
    at_first [] i d y first is = absurd first
    at_first (x ∷ xs) zero d y first is = rw first (is, refl)
    at_first (x ∷ xs) (suc i) d y first is = rw first.0 (refl, at_first xs i d y first.1 is)

    pub at_none : (xs : List X) → HasNone p xs → AtFirst p holds xs xs
    at_none [] none = refl
    at_none (x ∷ xs) none = rw none.0 (refl, at_none xs none.1)

    pub at_same : (xs : List X) → ((x : X) → holds x x) → AtFirst p holds xs xs
    at_same [] same = refl
    at_same (x ∷ xs) same = by (p x) (at_same xs same)
      where
        by : (b : Bool) → AtFirst p holds xs xs → MatchBool b (holds x x × (xs ≡ xs)) ((x ≡ x) × AtFirst p holds xs xs)
        by true rest = (same x, refl)
        by false rest = (refl, rest)
