-- The lowest crowded block: it is that of the jobs, there is one answer, and where there is none no layer has too many passes.
use Rattle.std.proofs.Common.{◌≡◌, ◌⊎◌, ◌<◌, ◌≤◌, ◌-◌, ◌==◌, ap, sym, subst, refl, arith, ℕ, zero, suc, Bool, true, false, if◌then◌else◌, List, [], ◌∷◌, length, inl, inr, Option, None, Some}
use Rattle.std.specs.List.{slice_get}
use Rattle.std.proofs.lemmas.Bool.{cases_lt}
use Rattle.std.proofs.lemmas.Option.{slice_get_past, slice_get_within}
use Rattle.jx_base.specs.declared.pieces.Block.{Block}
use Rattle.jx_base.specs.declared.style.Style.{Style}
use Rattle.jx_base.proofs.Lists.{some_none}
use Rattle.jx_codeblock.specs.declared.LayerEnd.{LayerEnd}
use Rattle.jx_codeblock.specs.declared.job.Job.{Job}
use Rattle.jx_codeblock.specs.Laws.{asked_at}
use Rattle.jx_layers.specs.Rule.{Rule}
use Rattle.jx_plan.specs.Layers.{AreJobs, HasMany, ends_of}
use Rattle.jx_plan.specs.Crowded.{IsCrowded, IsCrowdedBlock, IsLowestCrowded, IsLowestCrowdedBlock}
use Rattle.jx_plan.proofs.LayerLemmas.{job_ends}

-- ---- whether a block is crowded
many_or_few : (first : ℕ) (ends : List LayerEnd) → HasMany first ends ⊎ (HasMany first ends → ⊥)
many_or_few first [] = inr (λ h. h)
many_or_few first (e ∷ ends) = elim (cases_lt 164 (e.passes - first)) [
  | inl lt ↦ inl (inl lt)
  | inr le ↦ elim (many_or_few e.passes ends) [
    | inl more ↦ inl (inr more)
    | inr few ↦ inr (λ h. elim h [ inl lt ↦ omega (arith, lt, le) | inr more ↦ few more ])
  ]
]

crowded_or_not : (rule : Rule) (layers : ℕ) (blocks : List Block) (number : ℕ) (o : Option Block) → IsCrowdedBlock rule layers blocks number o ⊎ (IsCrowdedBlock rule layers blocks number o → ⊥)
crowded_or_not rule layers blocks number None = inr (λ h. h)
crowded_or_not rule layers blocks number (Some b) = many_or_few 0 (ends_of rule layers blocks number b)

-- the lowest number below one of which something holds, or none
lowest_below : (P : ℕ → Type 0) (n : ℕ) → ((k : ℕ) → P k ⊎ (P k → ⊥)) → ((k : ℕ) × P k × ((m : ℕ) → m < k → P m → ⊥)) ⊎ ((k : ℕ) → k < n → P k → ⊥)
lowest_below P zero tells = inr (λ k lt p. omega arith)
lowest_below P (suc n) tells = elim (lowest_below P n tells) [
  | inl found ↦ inl found
  | inr none ↦ elim (tells n) [
    | inl here ↦ inl (n, here, none)
    | inr clear ↦ inr (λ k lt p. elim (cases_lt k n) [
      | inl below ↦ none k below p
      | inr ge ↦ let same : k ≡ n = omega arith in clear (subst P same p)
    ])
  ]
]

pub some_lowest : (rule : Rule) (layers : ℕ) (blocks : List Block) → (lowest : Option ℕ) × IsLowestCrowdedBlock rule layers blocks lowest
some_lowest rule layers blocks =
    let P : ℕ → Type 0 = λ n. IsCrowdedBlock rule layers blocks n (slice_get blocks n) in
    elim (lowest_below P (length blocks) (λ n. crowded_or_not rule layers blocks n (slice_get blocks n))) [
      | inl found ↦ (Some found.0, (found.1, found.2))
      | inr none ↦ (
        None,
        λ n crowded. elim (cases_lt n (length blocks)) [
          | inl lt ↦ none n lt crowded
          | inr ge ↦ subst (IsCrowdedBlock rule layers blocks n) (slice_get_past blocks n ge) crowded
        ],
      )
    ]

pub one_lowest : (rule : Rule) (layers : ℕ) (blocks : List Block) (a b : Option ℕ) → IsLowestCrowdedBlock rule layers blocks a → IsLowestCrowdedBlock rule layers blocks b → a ≡ b
one_lowest rule layers blocks None None is_a is_b = refl
one_lowest rule layers blocks None (Some m) is_a is_b = absurd (is_a m is_b.0)
one_lowest rule layers blocks (Some k) None is_a is_b = absurd (is_b k is_a.0)
one_lowest rule layers blocks (Some k) (Some m) is_a is_b = elim (cases_lt k m) [
  | inl lt ↦ absurd (is_b.1 k lt is_a.0)
  | inr ge ↦ elim (cases_lt m k) [
    | inl lt ↦ absurd (is_a.1 m lt is_b.0)
    | inr le ↦ let same : k ≡ m = omega arith in ap Some same
  ]
]

-- ---- jobs and blocks
past_of : {X : Type 0} (xs : List X) (n : ℕ) → slice_get xs n ≡ None → length xs ≤ n
past_of [] n e = omega arith
past_of (x ∷ xs) zero e = absurd (some_none x e)
past_of (x ∷ xs) (suc n) e = omega (arith, past_of xs n e)

module _ (style : Option Style) (rule : Rule) (layers : ℕ) (blocks : List Block) (jobs : List Job) (some : 1 ≤ layers) (are : AreJobs style rule layers blocks jobs) where
  to_block : (n : ℕ) (j : Option Job) (b : Option Block) → slice_get jobs n ≡ j → slice_get blocks n ≡ b → IsCrowded j → IsCrowdedBlock rule layers blocks n b
  to_block n None b at_j at_b crowded = absurd crowded
  to_block n (Some job) None at_j at_b crowded = absurd (omega (arith, slice_get_within jobs n job at_j, past_of blocks n at_b, are.all))
  to_block n (Some job) (Some b) at_j at_b crowded = subst (HasMany 0) (job_ends style rule layers blocks n b job some (are.each n b job at_b at_j)) crowded

  of_block : (n : ℕ) (j : Option Job) (b : Option Block) → slice_get jobs n ≡ j → slice_get blocks n ≡ b → IsCrowdedBlock rule layers blocks n b → IsCrowded j
  of_block n j None at_j at_b crowded = absurd crowded
  of_block n None (Some b) at_j at_b crowded = absurd (omega (arith, slice_get_within blocks n b at_b, past_of jobs n at_j, are.all))
  of_block n (Some job) (Some b) at_j at_b crowded = subst (HasMany 0) (sym (job_ends style rule layers blocks n b job some (are.each n b job at_b at_j))) crowded

  pub lowest_of : (lowest : Option ℕ) → IsLowestCrowded jobs lowest → IsLowestCrowdedBlock rule layers blocks lowest
  lowest_of None none = λ n crowded. none n (of_block n (slice_get jobs n) (slice_get blocks n) refl refl crowded)
  lowest_of (Some k) is = (
    to_block k (slice_get jobs k) (slice_get blocks k) refl refl is.0,
    λ n lt crowded. is.1 n lt (of_block n (slice_get jobs n) (slice_get blocks n) refl refl crowded),
  )

-- ---- no layer has too many passes
either_few : (same : Bool) (a b : ℕ) → a ≤ 164 → b ≤ 164 → (if same then a else b) ≤ 164
either_few true a b few_a few_b = few_a
either_few false a b few_a few_b = few_b

asked_few : (layer first : ℕ) (ends : List LayerEnd) → (HasMany first ends → ⊥) → asked_at layer first ends ≤ 164
asked_few layer first [] none = omega arith
asked_few layer first (e ∷ ends) none =
    let here : e.passes - first ≤ 164 = elim (cases_lt 164 (e.passes - first)) [
      | inl lt ↦ absurd (none (inl lt))
      | inr le ↦ le
    ] in
    either_few (e.layer == layer) (e.passes - first) (asked_at layer e.passes ends) here (asked_few layer e.passes ends (λ more. none (inr more)))

pub none_few : (rule : Rule) (layers : ℕ) (blocks : List Block) (n : ℕ) (b : Block) (layer : ℕ) → IsLowestCrowdedBlock rule layers blocks None → slice_get blocks n ≡ Some b
    → asked_at layer 0 (ends_of rule layers blocks n b) ≤ 164
none_few rule layers blocks n b layer none at =
    asked_few layer 0 (ends_of rule layers blocks n b) (λ many. none n (subst (IsCrowdedBlock rule layers blocks n) (sym at) many))
