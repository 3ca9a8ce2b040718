-- Jobs that are planned may be asked, in layers that are written; and why there is no plan of them.
use Rattle.std.proofs.Common.{◌≡◌, ◌<◌, ◌≤◌, ◌∙◌, ap, sym, subst, arith, ℕ, List, length, inl, inr, slice_index_or, Option, None, Some}
use Rattle.std.specs.List.{All, slice_get}
use Rattle.std.proofs.lemmas.Option.{slice_get-get_or, slice_get_within}
use Rattle.jx_base.specs.declared.pieces.Block.{Block}
use Rattle.jx_base.specs.declared.style.Style.{Style}
use Rattle.jx_base.specs.Sound.{IsSound}
use Rattle.jx_codestream.specs.declared.Stream.{Stream}
use Rattle.jx_codeblock.specs.declared.LayerEnd.{LayerEnd}
use Rattle.jx_codeblock.specs.declared.job.Job.{Job}
use Rattle.jx_codeblock.specs.Written.{style_for}
use Rattle.jx_layers.specs.declared.StreamFacts.{StreamFacts}
use Rattle.jx_plan.specs.Causal.{first_broken}
use Rattle.jx_plan.specs.Facts.{facts_of}
use Rattle.jx_plan.specs.Layers.{AreJobs, IsJobOf}
use Rattle.jx_plan.specs.declared.faults.PlanFault.{PlanFault}
use Rattle.jx_plan.specs.declared.faults.PlanFault.TheVariants as fault
use Rattle.jx_plan.specs.Fits.{Fits}
use Rattle.jx_plan.specs.Plan.{IsJob}
use Rattle.jx_plan.specs.Planned.{ArePlanned, IsUnplannedBy, LacksPlan, layers_of_rule}
use Rattle.jx_plan.specs.Steps.{IsTooMuch}
use Rattle.jx_options.specs.Wanted.{Wanted}
use Rattle.jx_layers.specs.Rule.{Rule}
use Rattle.jx_plan.proofs.CausalLemmas.{asked_of}
use Rattle.jx_plan.proofs.OneLemmas.{layers_below}
use Rattle.jx_plan.proofs.LayerLaws.{CrowdLaws}
use Rattle.jx_plan.proofs.PlanLemmas.{whole_at}

pub jobs_asked : (style : Option Style) (r : Rule) (layers : ℕ) (blocks : List Block) (jobs : List Job) → AreJobs style r layers blocks jobs → All IsSound blocks
    → first_broken style blocks ≡ None → (n : ℕ) (job : Job) → slice_get jobs n ≡ Some job → IsJob style blocks n job
jobs_asked style r layers blocks jobs are sound whole n job e =
    let inside : n < length blocks = omega (arith, slice_get_within jobs n job e, are.all) in
    let b : Block = slice_index_or blocks n job.block.now in
    let at : slice_get blocks n ≡ Some b = slice_get-get_or blocks n job.block.now inside in
    let j : IsJobOf style r layers blocks n b job = are.each n b job at e in
    record {
      number_is = j.number_is;
      block_is = at ∙ ap Some (sym j.block_is);
      style_is = j.style_is ∙ ap (style_for style) (sym j.block_is);
      asked = asked_of style r layers blocks n b job (sound n job.block.now inside) (whole_at style blocks n b whole at inside) j;
    }

-- the same of the rule that there is
pub planned_each : (own style : Option Style) (blocks : List Block) (o : Option Rule) (facts : StreamFacts) (layers : ℕ) (jobs : List Job) → own ≡ style → All IsSound blocks
    → first_broken style blocks ≡ None → ArePlanned own o facts blocks layers jobs → (n : ℕ) (job : Job) → slice_get jobs n ≡ Some job → IsJob style blocks n job
planned_each own style blocks None facts layers jobs same sound whole h = absurd h
planned_each own style blocks (Some r) facts layers jobs same sound whole h =
    jobs_asked style r layers blocks jobs (subst (λ (x : Option Style). AreJobs x r layers blocks jobs) same h.2) sound whole

-- the ends of a rule's jobs lie in layers that are written
jobs_below : (style : Option Style) (r : Rule) (layers : ℕ) (blocks : List Block) (jobs : List Job) → 1 ≤ layers → AreJobs style r layers blocks jobs
    → (n : ℕ) (job : Job) → slice_get jobs n ≡ Some job → All (λ (e : LayerEnd). e.layer < layers) job.ends
jobs_below style r layers blocks jobs some are n job e =
    let inside : n < length blocks = omega (arith, slice_get_within jobs n job e, are.all) in
    let b : Block = slice_index_or blocks n job.block.now in
    let at : slice_get blocks n ≡ Some b = slice_get-get_or blocks n job.block.now inside in
    layers_below style r layers blocks n b job some (are.each n b job at e)

pub planned_below : (own : Option Style) (blocks : List Block) (o : Option Rule) (facts : StreamFacts) (layers : ℕ) (jobs : List Job) → ArePlanned own o facts blocks layers jobs
    → (n : ℕ) (job : Job) → slice_get jobs n ≡ Some job → All (λ (e : LayerEnd). e.layer < layers) job.ends
planned_below own blocks None facts layers jobs h = absurd h
planned_below own blocks (Some r) facts layers jobs h = jobs_below own r layers blocks jobs h.1 h.2

-- ---- limit 7, choice 12, 4, 5, 10 or 11, by the jobs and by the blocks
module _ (crowds : CrowdLaws) (s : Stream) (blocks : List Block) (w : Wanted) (fits : Fits w.precincts s) where
  much_by : (r : Rule) (jobs : List Job) (e : PlanFault) → 1 ≤ layers_of_rule r s blocks → AreJobs w.style r (layers_of_rule r s blocks) blocks jobs
      → IsTooMuch s w (layers_of_rule r s blocks) jobs e → IsUnplannedBy r s blocks w e
  much_by r jobs (fault.Choice number place) some are (inl x) = inl x
  much_by r jobs (fault.Choice number place) some are (inr (inl x)) =
      inr (inl (x.0, record { fits = fits; few = x.1; placed = x.2; lowest = crowds.jobs w.style r (layers_of_rule r s blocks) blocks jobs (Some place) some are x.3 }))
  much_by r jobs (fault.Choice number place) some are (inr (inr x)) =
      inr (inr (record { cause = x.0; uncrowded = crowds.jobs w.style r (layers_of_rule r s blocks) blocks jobs None some are x.1 }))
  much_by r jobs (fault.Limit number found) some are x = x
  much_by r jobs fault.NoMemory some are x = tt

  lacks : (own : Option Style) (o : Option Rule) (layers : ℕ) (jobs : List Job) → own ≡ w.style → ArePlanned own o (facts_of s blocks) blocks layers jobs
      → (e : PlanFault) → IsTooMuch s w layers jobs e → LacksPlan o s blocks w e
  lacks own None layers jobs same h e x = absurd h
  lacks own (Some r) layers jobs same h e x =
      let some : 1 ≤ layers_of_rule r s blocks = omega (arith, h.0, h.1) in
      let are : AreJobs w.style r layers blocks jobs = subst (λ (style : Option Style). AreJobs style r layers blocks jobs) same h.2 in
      much_by r jobs e some (subst (λ (k : ℕ). AreJobs w.style r k blocks jobs) h.0 are) (subst (λ (k : ℕ). IsTooMuch s w k jobs e) h.0 x)

  pub too_much : (own : Option Style) (rule : List ℕ → StreamFacts → Option Rule) (told words : List ℕ) (facts : StreamFacts) (layers : ℕ) (jobs : List Job) → own ≡ w.style → told ≡ words
      → facts ≡ facts_of s blocks → ArePlanned own (rule told facts) facts blocks layers jobs → (e : PlanFault) → IsTooMuch s w layers jobs e → LacksPlan (rule words (facts_of s blocks)) s blocks w e
  too_much own rule told words facts layers jobs same text is h e x =
      let by_words : ArePlanned own (rule words facts) facts blocks layers jobs = subst (λ (t : List ℕ). ArePlanned own (rule t facts) facts blocks layers jobs) text h in
      lacks own (rule words (facts_of s blocks)) layers jobs same (subst (λ (f : StreamFacts). ArePlanned own (rule words f) f blocks layers jobs) is by_words) e x
