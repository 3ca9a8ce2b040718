-- What is left of an input without its highest resolutions: all of it with 0, and where nothing is.
use Rattle.std.proofs.Common.{◌≡◌, ◌∙◌, ◌≤◌, ℕ, List, [], length, Option, None, Some, ap, refl, sym, subst, arith, inl, inr, ◌⊎◌}
use Rattle.std.specs.Option.{option_or}
use Rattle.jx_base.specs.Limits.{most_bytes}
use Rattle.jx_base.specs.declared.pieces.Block.{Block}
use Rattle.jx_codestream.specs.declared.Stream.{Stream}
use Rattle.jx_codestream.specs.Read.{IsRead}
use Rattle.jx_io.specs.Device.{Meaning}
use Rattle.jx_options.specs.Work.{Work}
use Rattle.jx_tier2_reader.specs.Gathered.{IsGathered}
use Rattle.jx_tile.specs.Totals.{totals_fault}
use Rattle.jx_plan.specs.Plan.{MayBePlanned}
use Rattle.jx_plan.specs.Standing.{HeadersStand}
use Rattle.jx_reduce.specs.Reduction.{blocks_left, stream_left}
use Rattle.jx_reduce.specs.Unreducible.{IsUnreducible, choice_at, first_choice, first_fewer, first_passing}
use Rattle.jx_reduce.specs.declared.faults.ReduceFault.{ReduceFault}
use Rattle.jx_reduce.specs.declared.faults.ReduceFault.TheVariants as unreduced
use Rattle.jx_cli.specs.Words.{Text}
use Rattle.jx_transcode.specs.Aims.{Aim}
use Rattle.jx_transcode.specs.Filed.{IsAnswered, all_told, told_of_all}
use Rattle.jx_transcode.specs.Rewritten.{HasBlocks, IsIrreducible, Reads, ReadsLeft}
use Rattle.jx_transcode.specs.declared.status.Status.{Status}
use Rattle.jx_transcode.specs.declared.status.Status.TheVariants as status
use Rattle.jx_transcode.proofs.DoneLemmas.{undone}
use Rattle.jx_rounds.proofs.FiledLemmas.{untouched}
use Rattle.jx_transcode.proofs.RefusedLemmas.{IsTold, no_plan, told_unread, told_unwritten}

-- what the laws of the crates below say of what is read, and of leaving out nothing
pub record WholeLaws : Type 0 where
  pub may : (b : List ℕ) (s : Stream) (blocks : List Block) → IsRead b s → length b ≤ most_bytes → totals_fault s ≡ None → IsGathered b s blocks → MayBePlanned s blocks
  pub stream : (s : Stream) → HeadersStand s → stream_left 0 s ≡ s
  pub blocks : (s : Stream) (blocks : List Block) → MayBePlanned s blocks → blocks_left 0 s blocks ≡ blocks
  pub free : (s : Stream) → HeadersStand s → first_choice 0 s ≡ None

module _ (laws : WholeLaws) (input : List ℕ) (s : Stream) (blocks : List Block) (short : length input ≤ most_bytes) where
  pub planned_of : Reads input s blocks → MayBePlanned s blocks
  planned_of reads = laws.may input s blocks reads.read short reads.totals reads.gathered

  -- with 0 all is left
  pub all_left : Reads input s blocks → ReadsLeft 0 input s blocks
  all_left reads =
      let plan : MayBePlanned s blocks = planned_of reads in
      record { whole = s; all = blocks; reads = reads; free = laws.free s plan.headers; stream = sym (laws.stream s plan.headers); blocks_are = sym (laws.blocks s blocks plan) }

pub all_kept : ((s : Stream) → HeadersStand s → stream_left 0 s ≡ s) → ((s : Stream) (blocks : List Block) → MayBePlanned s blocks → blocks_left 0 s blocks ≡ blocks) → ((s : Stream) → HeadersStand s → first_choice 0 s ≡ None)
    → (input : List ℕ) (s : Stream) (blocks : List Block) → MayBePlanned s blocks → Reads input s blocks → ReadsLeft 0 input s blocks
all_kept stream all free input s blocks plan reads = record { whole = s; all = blocks; reads = reads; free = free s plan.headers; stream = sym (stream s plan.headers); blocks_are = sym (all s blocks plan) }

pub left_is_all : WholeLaws → (d : ℕ) (input : List ℕ) (s : Stream) (blocks : List Block) → length input ≤ most_bytes → d ≡ 0 → (left : ReadsLeft d input s blocks) → (s ≡ left.whole) × (blocks ≡ left.all)
left_is_all laws d input s blocks short none left =
    let plan : MayBePlanned left.whole left.all = planned_of laws input left.whole left.all short left.reads in (
      left.stream ∙ ap (λ (n : ℕ). stream_left n left.whole) none ∙ laws.stream left.whole plan.headers,
      left.blocks_are ∙ ap (λ (n : ℕ). blocks_left n left.whole left.all) none ∙ laws.blocks left.whole left.all plan,
    )

pub left_reads : WholeLaws → (d : ℕ) (input : List ℕ) (s : Stream) (blocks : List Block) → length input ≤ most_bytes → d ≡ 0 → ReadsLeft d input s blocks → Reads input s blocks
left_reads laws d input s blocks short none left =
    let is = left_is_all laws d input s blocks short none left in
    let here : Reads input s left.all = subst (λ (x : Stream). Reads input x left.all) (sym is.0) left.reads in
    subst (λ (b : List Block). Reads input s b) (sym is.1) here

-- ---- nothing is left
choice_number : (n p k q : ℕ) → ◌≡◌ {A = Option ReduceFault} (Some (unreduced.Choice n p)) (Some (unreduced.Choice k q)) → n ≡ k
choice_number n p k q e = cc

never_empty : (n p : ℕ) → ◌≡◌ {A = Option ReduceFault} None (Some (unreduced.Choice n p)) → ⊥
never_empty n p e = cc

eight_or_nine : (a b : Option ℕ) (number place : ℕ) → option_or (choice_at 8 a) (choice_at 9 b) ≡ Some (unreduced.Choice number place) → (number ≡ 8) ⊎ (number ≡ 9)
eight_or_nine (Some p) b number place e = inl (sym (choice_number 8 p number place e))
eight_or_nine None (Some p) number place e = inr (sym (choice_number 9 p number place e))
eight_or_nine None None number place e = absurd (never_empty number place e)

pub choice_of_all : (d : ℕ) (s : Stream) (number place : ℕ) → first_choice d s ≡ Some (unreduced.Choice number place) → (number ≡ 8) ⊎ (number ≡ 9)
choice_of_all d s number place e = eight_or_nine (first_passing d s.siz.comps) (first_fewer d s) number place e

never_seven : (number : ℕ) → (number ≡ 8) ⊎ (number ≡ 9) → number ≡ 7 → ⊥
never_seven number (inl eight) e = omega (arith, e, eight)
never_seven number (inr nine) e = omega (arith, e, nine)

no_memory_by : (a b : Option ℕ) → option_or (choice_at 8 a) (choice_at 9 b) ≡ Some unreduced.NoMemory → ⊥
no_memory_by (Some p) b e = cc
no_memory_by None (Some p) e = cc
no_memory_by None None e = cc

pub never_memory : (d : ℕ) (s : Stream) → first_choice d s ≡ Some unreduced.NoMemory → ⊥
never_memory d s e = no_memory_by (first_passing d s.siz.comps) (first_fewer d s) e

pub answered_unreduced : WholeLaws → (name : Text) (work : Work) (aim : Aim) (input : List ℕ) (s : Stream) (blocks : List Block) (e : ReduceFault) (n : ℕ) (mm : Meaning) → IsUnreducible aim.reduce s e → n ≡ length blocks
    → length input ≤ aim.limit → length input ≤ most_bytes → Reads input s blocks → IsAnswered name work aim input (told_of_all e) (all_told e n) 0 [] mm mm
answered_unreduced laws name work aim input s blocks (unreduced.Choice number place) n mm cause count within short reads =
    let is : IsIrreducible aim.reduce input number place = record { stream = s; blocks = blocks; reads = reads; cause = cause } in
    let above : (number ≡ 8) ⊎ (number ≡ 9) = choice_of_all aim.reduce s number place cause in
    let other : number ≡ 7 → ⊥ = never_seven number above in
    let all : HasBlocks 0 input n = record { stream = s; blocks = blocks; reads = all_left laws input s blocks short reads; count_is = count } in record {
      verdict = λ v. (within, inr (inr is));
      leaves = inr (other, inr (above, all), untouched mm);
      unsaid = inr (inr (inl (record { within = within; number = number; place = place; is = is; count = all; same = untouched mm })));
      tape = inl refl;
      whole = λ done. absurd (undone (status.Choice number place) tt done);
      taped = inr (other, refl);
    }
answered_unreduced laws name work aim input s blocks unreduced.NoMemory n mm cause count within short reads = no_plan name work aim input mm

-- ---- what is told of it is no fault of a device, and doesn't speak of the words
pub all_is_told : (e : ReduceFault) → IsTold (told_of_all e)
unfolding IsTold
all_is_told (unreduced.Choice number place) = tt
all_is_told unreduced.NoMemory = tt

pub all_unwritten : (e : ReduceFault) (s : Status) → s ≡ told_of_all e → s ≡ status.WriteFault → ⊥
all_unwritten e s is = told_unwritten s (subst IsTold (sym is) (all_is_told e))

pub all_unread : (e : ReduceFault) (s : Status) → s ≡ told_of_all e → (s ≡ status.ReadFault → ⊥) × (s ≡ status.Words → ⊥)
all_unread e s is = told_unread s (subst IsTold (sym is) (all_is_told e))
