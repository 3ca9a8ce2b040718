-- What a worker commits for a job.
use Rattle.std.specs.Prelude.{◌≡◌, ◌⊎◌, ℕ, zero, suc, true, List, [], ◌∷◌, Some}
use Rattle.jx_codeblock.specs.declared.job.Job.{Job}
use Rattle.jx_codeblock.specs.Recoded.{WrittenBlock, recoding_in, is_bad}
use Rattle.jx_store.specs.declared.work.Named.{Named}
use Rattle.jx_store.specs.declared.work.Named.TheVariants.{Made, Bad, Short}

-- a block of that job, its number where it is bad, or its number alone
abbrev pub IsCommitted : Job → Named WrittenBlock → Type 0
IsCommitted j (Made r) = r.job ≡ j
IsCommitted j (Bad k) = (k ≡ j.number) × (is_bad j ≡ true)
IsCommitted j (Short k) = k ≡ j.number

-- a block that is what its job asks for
abbrev pub IsRight : Named WrittenBlock → Type 0
IsRight (Made r) = Some r.recoding ≡ recoding_in r.job
IsRight (Bad k) = ⊥
IsRight (Short k) = ⊥

-- that the job is bad
abbrev pub IsBadOne : Named WrittenBlock → Type 0
IsBadOne (Made r) = ⊥
IsBadOne (Bad k) = Unit {0}
IsBadOne (Short k) = ⊥

-- so many there are up to the first whose job is bad, with it, and each before is right
abbrev pub IsRightFront : List (Named WrittenBlock) → ℕ → Type 0
IsRightFront [] n = n ≡ 0
IsRightFront (x ∷ rest) zero = ⊥
IsRightFront (x ∷ rest) (suc n) = (IsRight x × IsRightFront rest n) ⊎ (IsBadOne x × (n ≡ 0))
