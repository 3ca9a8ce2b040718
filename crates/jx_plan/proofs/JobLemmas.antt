-- Jobs that are made block by block.
use Rattle.std.proofs.Common.{◌≡◌, ◌<◌, ◌≤◌, ◌+◌, ◌-◌, ◌*◌, ◌^◌, ◌∙◌, ap, sym, subst, refl, arith, ℕ, zero, suc, List, [], ◌∷◌, ◌++◌, length, length-append, inl, inr, slice_index_or, Option, None, Some, IfSome, IsSome}
use Rattle.std.specs.List.{All, slice_get}
use Rattle.std.proofs.lemmas.Bool.{cases_lt}
use Rattle.std.proofs.lemmas.List.Sums.{sum_by_more}
use Rattle.jx_base.specs.declared.pieces.Block.{Block}
use Rattle.jx_base.specs.declared.style.Style.{Style}
use Rattle.jx_base.specs.Sound.{IsSound}
use Rattle.std.proofs.lemmas.Option.{get_or_from_slice_get, none-some, same_Some}
use Rattle.jx_base.proofs.Lists.{get_left, get_right}
use Rattle.jx_codeblock.specs.declared.job.Job.{Job}
use Rattle.jx_layers.specs.Rule.{Rule}
use Rattle.jx_plan.specs.Layers.{AreJobs, IsJobOf, asked_before}
use Rattle.jx_plan.specs.Sent.{AreFirst, IsJobFrom}
use Rattle.jx_base.specs.Limits.{most_blocks}

pub asked_next : (blocks : List Block) (n : ℕ) (d : Block) → n < length blocks → asked_before blocks (n + 1) ≡ asked_before blocks n + (slice_index_or blocks n d).passes
asked_next blocks n d lt = sum_by_more (λ (b : Block). b.passes) blocks n d lt

few_passes : (b : Block) → IsSound b → b.passes ≤ 220
few_passes b sound = omega (arith, sound.few, sound.planes)

pub few_asked : (blocks : List Block) (n : ℕ) (d : Block) → All IsSound blocks → n ≤ length blocks → asked_before blocks n ≤ 220 * n
few_asked blocks zero d sound le = omega arith
few_asked blocks (suc n) d sound le =
    let before : asked_before blocks n ≤ 220 * n = few_asked blocks n d sound (omega arith) in
    let more = asked_next blocks n d (omega arith) in
    let few : (slice_index_or blocks n d).passes ≤ 220 = few_passes (slice_index_or blocks n d) (sound n d (omega arith)) in
    let next : n + 1 ≡ suc n = omega arith in
    subst (λ m. asked_before blocks m ≤ 220 * m) next (omega (arith, before, more, few))

pub no_jobs : (style : Option Style) (rule : Rule) (layers : ℕ) (blocks : List Block) → AreFirst style rule layers blocks 0 []
no_jobs style rule layers blocks = record { all = refl; each = λ number b job block is. absurd (none-some job is) }

pub all_jobs : (style : Option Style) (rule : Rule) (layers : ℕ) (blocks : List Block) (n : ℕ) (jobs : List Job) → AreFirst style rule layers blocks n jobs → n ≡ length blocks → AreJobs style rule layers blocks jobs
all_jobs style rule layers blocks n jobs first is = record { all = first.all ∙ is; each = first.each }

-- what is asked of a block after those before it
of_blocks : (style : Option Style) (rule : Rule) (layers asked : ℕ) (blocks : List Block) (n : ℕ) (b : Block) (job : Job) → asked ≡ asked_before blocks n → IsJobFrom style rule (layers - 1) asked n b job → IsJobOf style rule layers blocks n b job
of_blocks style rule layers asked blocks n b job is from =
    let from_it : IsJobFrom style rule (layers - 1) (asked_before blocks n) n b job = subst (λ a. IsJobFrom style rule (layers - 1) a n b job) is from in
    record { number_is = from_it.number_is; block_is = from_it.block_is; style_is = from_it.style_is; ends = from_it.ends; layers_are = from_it.layers_are }

last_is : (job found : Job) (k : ℕ) → slice_get (job ∷ []) k ≡ Some found → (k ≡ 0) × (job ≡ found)
last_is job found zero e = (refl, same_Some job found e)
last_is job found (suc k) e = absurd (none-some found e)

one_more : (style : Option Style) (rule : Rule) (layers : ℕ) (blocks : List Block) (n : ℕ) (d : Block) (jobs : List Job) (job : Job) → n < length blocks → AreFirst style rule layers blocks n jobs → IsJobOf style rule layers blocks n (slice_index_or blocks n d) job
    → AreFirst style rule layers blocks (n + 1) (jobs ++ job ∷ [])
one_more style rule layers blocks n d jobs job lt first new = record {
  all = length-append jobs (job ∷ []) ∙ ap (λ k. k + 1) first.all;
  each = λ number b found block is. elim (cases_lt number n) [
    | inl before ↦ first.each number b found block (sym (get_left jobs (job ∷ []) number (omega (arith, before, first.all))) ∙ is)
    | inr ge ↦
        let last = last_is job found (number - n) (sym (get_right jobs (job ∷ []) number (number - n) (omega (arith, ge, first.all))) ∙ is) in
        let same : n ≡ number = omega (arith, last.0, ge) in
        let at : slice_index_or blocks n d ≡ b = ap (λ k. slice_index_or blocks k d) same ∙ get_or_from_slice_get blocks number b d block in
        subst (λ k. IsJobOf style rule layers blocks k b found) same
        (subst (λ x. IsJobOf style rule layers blocks n x found) at (subst (λ j. IsJobOf style rule layers blocks n (slice_index_or blocks n d) j) last.1 new))
  ];
}

-- what is asked after a block, and how often a planner was asked
pub jobs_on : (style : Option Style) (o now : Option Rule) (layers asked : ℕ) (blocks : List Block) (n : ℕ) (b : Block) (jobs : List Job) (job : Job) (more : List Job) → now ≡ o → asked ≡ asked_before blocks n → n < length blocks
    → b ≡ slice_index_or blocks n b → more ≡ jobs ++ job ∷ [] → IfSome o (λ r. AreFirst style r layers blocks n jobs) → IfSome now (λ r. IsJobFrom style r (layers - 1) asked n b job) → IfSome o (λ r. AreFirst style r layers blocks (n + 1) more)
jobs_on style None now layers asked blocks n b jobs job more is asked_is lt at more_is first from = tt
jobs_on style (Some r) now layers asked blocks n b jobs job more is asked_is lt at more_is first from =
    let from_some : IfSome (Some r) (λ x. IsJobFrom style x (layers - 1) asked n b job) = subst (λ x. IfSome x (λ y. IsJobFrom style y (layers - 1) asked n b job)) is from in
    subst (AreFirst style r layers blocks (n + 1)) (sym more_is)
    (one_more style r layers blocks n b jobs job lt first (subst (λ x. IsJobOf style r layers blocks n x job) at (of_blocks style r layers asked blocks n b job asked_is from_some)))

pub asked_on : (blocks : List Block) (n : ℕ) (b : Block) (before now : ℕ) → n < length blocks → b ≡ slice_index_or blocks n b → before ≡ asked_before blocks n → now ≡ before + b.passes → now ≡ asked_before blocks (n + 1)
asked_on blocks n b before now lt at before_is now_is =
    let more = asked_next blocks n b lt in
    let same : b.passes ≡ (slice_index_or blocks n b).passes = ap (λ (x : Block). x.passes) at in
    omega (arith, more, same, before_is, now_is)

-- how often a planner was asked at most, when not all of a block was asked for, and when it was
asked_grows : (blocks : List Block) (d : Block) (n k : ℕ) → n + k ≤ length blocks → asked_before blocks n ≤ asked_before blocks (n + k)
asked_grows blocks d n zero le = let same : n + 0 ≡ n = omega arith in rw same (omega arith)
asked_grows blocks d n (suc k) le =
    let before : asked_before blocks n ≤ asked_before blocks (n + k) = asked_grows blocks d n k (omega arith) in
    let more = asked_next blocks (n + k) d (omega arith) in
    let next : n + suc k ≡ n + k + 1 = omega arith in
    rw next (omega (arith, before, more))

pub asked_to : (blocks : List Block) (d : Block) (n : ℕ) → n ≤ length blocks → asked_before blocks n ≤ asked_before blocks (length blocks)
asked_to blocks d n le =
    let all : n + (length blocks - n) ≡ length blocks = omega arith in
    subst (λ m. asked_before blocks n ≤ asked_before blocks m) all (asked_grows blocks d n (length blocks - n) (omega arith))

pub asked_most : (blocks : List Block) (n : ℕ) (b : Block) (before now : ℕ) → n < length blocks → b ≡ slice_index_or blocks n b → before ≡ asked_before blocks n → now ≤ before + b.passes → now ≤ asked_before blocks (length blocks)
asked_most blocks n b before now lt at before_is most =
    let more = asked_next blocks n b lt in
    let same : b.passes ≡ (slice_index_or blocks n b).passes = ap (λ (x : Block). x.passes) at in
    let to = asked_to blocks b (n + 1) (omega arith) in
    omega (arith, more, same, before_is, most, to)

-- ---- what a loop over blocks asks, and what it leaves
pub begun_on : (o now : Option Rule) → now ≡ o → IsSome o → IsSome now
begun_on o now is begun = subst IsSome (sym is) begun

pub room_left : (blocks : List Block) (n asked : ℕ) (d : Block) → All IsSound blocks → length blocks ≤ most_blocks → n < length blocks → asked ≡ asked_before blocks n → asked < 2 ^ 31
room_left blocks n asked d sound few lt is =
    let most : asked_before blocks n ≤ 220 * n = few_asked blocks n d sound (omega arith) in
    omega (arith, most, few, lt, is)

pub sound_at : (blocks : List Block) (n : ℕ) (b : Block) → All IsSound blocks → n < length blocks → b ≡ slice_index_or blocks n b → IsSound b
sound_at blocks n b sound lt is = subst IsSound (sym is) (sound n b lt)

pub jobs_begun : (style : Option Style) (o : Option Rule) (layers : ℕ) (blocks : List Block) (jobs : List Job) → jobs ≡ [] → IfSome o (λ r. AreFirst style r layers blocks 0 jobs)
jobs_begun style None layers blocks jobs is = tt
jobs_begun style (Some r) layers blocks jobs is = subst (AreFirst style r layers blocks 0) (sym is) (no_jobs style r layers blocks)

pub jobs_done : (style : Option Style) (o : Option Rule) (layers : ℕ) (blocks : List Block) (n : ℕ) (jobs : List Job) → n ≡ length blocks → IfSome o (λ r. AreFirst style r layers blocks n jobs) → IfSome o (λ r. AreJobs style r layers blocks jobs)
jobs_done style None layers blocks n jobs is first = tt
jobs_done style (Some r) layers blocks n jobs is first = all_jobs style r layers blocks n jobs first is

pub asked_all : (blocks : List Block) (n asked : ℕ) → n ≡ length blocks → asked ≡ asked_before blocks n → asked ≡ asked_before blocks (length blocks)
asked_all blocks n asked is asked_is = asked_is ∙ ap (asked_before blocks) is

pub most_all : (blocks : List Block) (n asked : ℕ) → n ≡ length blocks → asked ≡ asked_before blocks n → asked ≤ asked_before blocks (length blocks)
most_all blocks n asked is asked_is = omega (arith, asked_all blocks n asked is asked_is)
