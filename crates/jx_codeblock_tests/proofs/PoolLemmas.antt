-- The jobs of the tests.
use Rattle.std.proofs.Common.{◌≡◌, ℕ, zero, suc, ◌+◌, Some, List, [], ◌∷◌, ◌++◌, map, length, ap, subst, ◌∙◌, length-append}
use Rattle.std.specs.List.{slice_get, sum}
use Rattle.std.proofs.lemmas.List.{map-append}
use Rattle.std.proofs.lemmas.List.Sums.{sum_by_push}
use Rattle.std.proofs.lemmas.Option.{none-some, same_Some}
use Rattle.jx_codeblock.specs.declared.job.Job.{Job}
use Rattle.jx_codeblock.specs.Jobs.{IsAsked}
use Rattle.jx_workers.specs.Tapes.{AreAsked, IsJob, size_of}

pushed : {X : Type 0} (P : ℕ → X → Type 0) (xs : List X) (x : X) → ((i : ℕ) (y : X) → slice_get xs i ≡ Some y → P i y) → P (length xs) x
    → (i : ℕ) (y : X) → slice_get (xs ++ x ∷ []) i ≡ Some y → P i y
pushed P [] x each last zero y at = subst (P 0) (same_Some x y at) last
pushed P [] x each last (suc i) y at = absurd (none-some y at)
pushed P (z ∷ zs) x each last zero y at = each 0 y at
pushed P (z ∷ zs) x each last (suc i) y at = pushed (λ (k : ℕ). P (suc k)) zs x (λ k w there. each (suc k) w there) last i y at

-- one job more
pub add_job : (first : ℕ) (jobs : List Job) (j : Job) → AreAsked first jobs → j.number ≡ first + length jobs → IsAsked j.block.now j.style j.ends → AreAsked first (jobs ++ j ∷ [])
add_job first jobs j asked number is = pushed (λ (i : ℕ) (x : Job). IsJob (first + i) x) jobs j asked (record { numbered = number; asked = is })

pub add_size : (jobs : List Job) (j : Job) → sum (map size_of (jobs ++ j ∷ [])) ≡ sum (map size_of jobs) + size_of j
add_size jobs j = ap sum (map-append size_of jobs (j ∷ [])) ∙ sum_by_push (λ (x : ℕ). x) (map size_of jobs) (size_of j)

pub one_more : (jobs : List Job) (j : Job) → length (jobs ++ j ∷ []) ≡ length jobs + 1
one_more jobs j = length-append jobs (j ∷ [])
