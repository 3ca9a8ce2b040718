-- The blocks as they are written, one after another, and the jobs that ask for them.
use Rattle.std.proofs.Common.{◌≡◌, ◌≤◌, ◌+◌, ◌∙◌, ap, subst, refl, arith, ℕ, zero, suc, List, [], ◌∷◌, length, map, Option, Some}
use Rattle.std.specs.List.{slice_get}
use Rattle.std.specs.Option.{option_map}
use Rattle.jx_base.specs.declared.pieces.Block.{Block}
use Rattle.jx_base.specs.declared.style.Style.{Style}
use Rattle.jx_codeblock.specs.declared.LayerEnd.{LayerEnd}
use Rattle.jx_codeblock.specs.declared.job.Job.{Job}
use Rattle.jx_codeblock.specs.Recoding.{recoding}
use Rattle.jx_codeblock.specs.Written.{block_asked, block_with, style_for, written_in}
use Rattle.jx_layers.specs.Rule.{Rule}
use Rattle.jx_plan.specs.Layers.{AreJobs, IsJobOf, ends_of, written_by, written_from}
use Rattle.jx_plan.proofs.LayerLemmas.{job_ends}

-- a block as it is written
abbrev one_written : Option Style → Rule → ℕ → List Block → ℕ → Block → Block
one_written style rule layers blocks number b = written_in style (ends_of rule layers blocks number b) b

count_from : (style : Option Style) (rule : Rule) (layers : ℕ) (blocks : List Block) (number : ℕ) (more : List Block) → length (written_from style rule layers blocks number more) ≡ length more
count_from style rule layers blocks number [] = refl
count_from style rule layers blocks number (b ∷ more) = omega (arith, count_from style rule layers blocks (number + 1) more)

at_from : (style : Option Style) (rule : Rule) (layers : ℕ) (blocks : List Block) (number : ℕ) (more : List Block) (n : ℕ)
    → slice_get (written_from style rule layers blocks number more) n ≡ option_map (one_written style rule layers blocks (number + n)) (slice_get more n)
at_from style rule layers blocks number [] n = refl
at_from style rule layers blocks number (b ∷ more) zero =
    let same : number ≡ number + 0 = omega arith in
    ap (λ k. Some (one_written style rule layers blocks k b)) same
at_from style rule layers blocks number (b ∷ more) (suc n) =
    let next : number + 1 + n ≡ number + suc n = omega arith in
    at_from style rule layers blocks (number + 1) more n ∙ ap (λ k. option_map (one_written style rule layers blocks k) (slice_get more n)) next

pub written_count : (style : Option Style) (rule : Rule) (layers : ℕ) (blocks : List Block) → length (written_by style rule layers blocks) ≡ length blocks
unfolding written_by
written_count style rule layers blocks = count_from style rule layers blocks 0 blocks

pub written_at : (style : Option Style) (rule : Rule) (layers : ℕ) (blocks : List Block) (n : ℕ)
    → slice_get (written_by style rule layers blocks) n ≡ option_map (λ (b : Block). written_in style (ends_of rule layers blocks n b) b) (slice_get blocks n)
unfolding written_by
written_at style rule layers blocks n =
    let same : 0 + n ≡ n = omega arith in
    at_from style rule layers blocks 0 blocks n ∙ ap (λ k. option_map (one_written style rule layers blocks k) (slice_get blocks n)) same

-- ---- what jobs ask for
one_asked : (style : Option Style) (rule : Rule) (layers : ℕ) (blocks : List Block) (number : ℕ) (b : Block) (job : Job) → 1 ≤ layers → IsJobOf style rule layers blocks number b job → block_asked job ≡ one_written style rule layers blocks number b
unfolding written_in
one_asked style rule layers blocks number b job some is =
    ap (λ (x : Block). block_with x (recoding x job.style job.ends)) is.block_is
    ∙ ap (λ (s : Option Style). block_with b (recoding b s job.ends)) is.style_is
    ∙ ap (λ (ends : List LayerEnd). block_with b (recoding b (style_for style b) ends)) (job_ends style rule layers blocks number b job some is)

asked_from : (style : Option Style) (rule : Rule) (layers : ℕ) (blocks : List Block) (number : ℕ) (more : List Block) (jobs : List Job) → 1 ≤ layers → length jobs ≡ length more
    → ((n : ℕ) (b : Block) (job : Job) → slice_get more n ≡ Some b → slice_get jobs n ≡ Some job → IsJobOf style rule layers blocks (number + n) b job)
    → map block_asked jobs ≡ written_from style rule layers blocks number more
asked_from style rule layers blocks number [] [] some all each = refl
asked_from style rule layers blocks number [] (j ∷ jobs) some all each = absurd (omega arith)
asked_from style rule layers blocks number (b ∷ more) [] some all each = absurd (omega arith)
asked_from style rule layers blocks number (b ∷ more) (j ∷ jobs) some all each =
    let same : number + 0 ≡ number = omega arith in
    let here : IsJobOf style rule layers blocks number b j = subst (λ k. IsJobOf style rule layers blocks k b j) same (each 0 b j refl refl) in
    let later : (n : ℕ) (x : Block) (job : Job) → slice_get more n ≡ Some x → slice_get jobs n ≡ Some job → IsJobOf style rule layers blocks (number + 1 + n) x job = λ n x job at_x at_job.
    let next : number + suc n ≡ number + 1 + n = omega arith in
    subst (λ k. IsJobOf style rule layers blocks k x job) next (each (suc n) x job at_x at_job) in
    ap (λ (x : Block). x ∷ map block_asked jobs) (one_asked style rule layers blocks number b j some here)
    ∙ ap (λ (xs : List Block). one_written style rule layers blocks number b ∷ xs) (asked_from style rule layers blocks (number + 1) more jobs some (omega arith) later)

pub asked_written : (style : Option Style) (rule : Rule) (layers : ℕ) (blocks : List Block) (jobs : List Job) → 1 ≤ layers → AreJobs style rule layers blocks jobs → map block_asked jobs ≡ written_by style rule layers blocks
unfolding written_by
asked_written style rule layers blocks jobs some are =
    asked_from style rule layers blocks 0 blocks jobs some are.all (λ n b job at_b at_job.
    let same : n ≡ 0 + n = omega arith in
    subst (λ k. IsJobOf style rule layers blocks k b job) same (are.each n b job at_b at_job))
