-- What becomes of an input that is refused, or isn't planned: nothing is made.
use Rattle.std.proofs.Common.{◌≡◌, ◌⊎◌, ◌<◌, ◌≤◌, ◌+◌, ℕ, List, [], length, Option, None, Some, refl, sym, subst, arith, inl, inr}
use Rattle.jx_base.specs.declared.pieces.Block.{Block}
use Rattle.jx_base.specs.declared.style.Style.{Style}
use Rattle.jx_io.specs.Device.{Meaning}
use Rattle.jx_codestream.specs.declared.faults.StreamFault.{StreamFault}
use Rattle.jx_codestream.specs.declared.faults.StreamFault.TheVariants as fault
use Rattle.jx_codestream.specs.declared.Stream.{Stream}
use Rattle.jx_codestream.specs.FirstViolated.{IsFirst}
use Rattle.jx_codestream.specs.Read.{IsRead}
use Rattle.jx_tile.specs.Faults.{HasCause}
use Rattle.jx_tier2_reader.specs.Gathered.{IsBroken, IsGathered}
use Rattle.jx_tile.specs.Totals.{totals_fault}
use Rattle.jx_layers.specs.Rule.{Rule}
use Rattle.jx_plan.specs.declared.faults.PlanFault.{PlanFault}
use Rattle.jx_plan.specs.declared.faults.PlanFault.TheVariants as unplanned
use Rattle.jx_plan.specs.Causes.{IsLate, IsPlaneBroken}
use Rattle.jx_plan.specs.Fits.{AreUnfit}
use Rattle.jx_plan.specs.Planned.{HasPlanCause, IsUnplannedBy, LacksPlan, layers_of_rule}
use Rattle.jx_options.specs.Wanted.{Wanted}
use Rattle.jx_transcode.specs.Aims.{Aim, rule_in}
use Rattle.jx_transcode.specs.Filed.{IsAnswered, blocks_told, told_by, told_of_plan}
use Rattle.jx_transcode.specs.Judged.{IsInputCause}
use Rattle.jx_transcode.specs.Outcome.{IsCutShort}
use Rattle.jx_transcode.specs.Rewritten.{HasBlocks, IsUnplanned, Reads, ReadsLeft}
use Rattle.jx_transcode.specs.declared.status.Status.{Status}
use Rattle.jx_transcode.specs.declared.status.Status.TheVariants as status
use Rattle.jx_cli.specs.Words.{Text}
use Rattle.jx_options.specs.Work.{Work}
use Rattle.jx_transcode.proofs.DoneLemmas.{undone}
use Rattle.jx_transcode.proofs.ToldLemmas.{stop_told}
use Rattle.jx_rounds.proofs.FiledLemmas.{untouched}

-- ---- nothing was made
refused_short : (name : Text) (aim : Aim) (input : List ℕ) (mm : Meaning) → IsCutShort name aim input 0 mm mm
refused_short name aim input mm = inl (refl, untouched mm)

pub no_plan : (name : Text) (work : Work) (aim : Aim) (input : List ℕ) (mm : Meaning) → IsAnswered name work aim input status.NoMemory 0 0 [] mm mm
no_plan name work aim input mm =
    record { verdict = λ v. absurd v; leaves = refused_short name aim input mm; unsaid = refused_short name aim input mm; tape = inl refl; whole = λ done. absurd (undone status.NoMemory tt done); taped = inl refl }

-- there is no limit but 7, and the choices 7, 8 and 9 aren't among the choices of a plan
IsBelow : PlanFault → Type 0
IsBelow (unplanned.Choice number place) = (number < 7) ⊎ (9 < number)
IsBelow (unplanned.Limit number found) = number ≡ 7
IsBelow unplanned.NoMemory = Unit {0}

broken_below : (style : Option Style) (blocks : List Block) (e : PlanFault) → IsPlaneBroken style blocks e → IsBelow e
unfolding IsBelow
broken_below style blocks (unplanned.Choice number place) is = inl (omega (arith, is.0))
broken_below style blocks (unplanned.Limit number found) is = absurd is
broken_below style blocks unplanned.NoMemory is = tt

unfit_below : (s : Stream) (precincts : Option (List ℕ)) (e : PlanFault) → AreUnfit s precincts e → IsBelow e
unfolding IsBelow
unfit_below s precincts (unplanned.Choice number place) (inl above) = inl (omega (arith, above.0))
unfit_below s precincts (unplanned.Choice number place) (inr changed) = inl (omega (arith, changed.0))
unfit_below s precincts (unplanned.Limit number found) is = absurd is
unfit_below s precincts unplanned.NoMemory is = tt

late_below : (s : Stream) (w : Wanted) (layers number place : ℕ) → IsLate s w layers number place → (number < 7) ⊎ (9 < number)
late_below s w layers number place (inl five) = inl (omega (arith, five.0))
late_below s w layers number place (inr (inl ten)) = inr (omega (arith, ten.0))
late_below s w layers number place (inr (inr eleven)) = inr (omega (arith, eleven.0))

by_below : (r : Rule) (s : Stream) (blocks : List Block) (w : Wanted) (e : PlanFault) → IsUnplannedBy r s blocks w e → IsBelow e
unfolding IsBelow
by_below r s blocks w (unplanned.Choice number place) (inl stray) = inr (omega (arith, stray.0))
by_below r s blocks w (unplanned.Choice number place) (inr (inl crowded)) = inl (omega (arith, crowded.0))
by_below r s blocks w (unplanned.Choice number place) (inr (inr late)) = late_below s w (layers_of_rule r s blocks) number place late.cause
by_below r s blocks w (unplanned.Limit number found) is = is.0
by_below r s blocks w unplanned.NoMemory is = tt

six : (6 < 7) ⊎ (9 < 6)
six = inl (omega arith)

lacks_below : (o : Option Rule) (s : Stream) (blocks : List Block) (w : Wanted) (e : PlanFault) → LacksPlan o s blocks w e → IsBelow e
unfolding IsBelow
lacks_below None s blocks w e is = rw is.1 six
lacks_below (Some r) s blocks w e is = by_below r s blocks w e is

cause_below : (o : Option Rule) (s : Stream) (blocks : List Block) (w : Wanted) (e : PlanFault) → HasPlanCause o s blocks w e → IsBelow e
cause_below o s blocks w e (inl broken) = broken_below w.style blocks e broken
cause_below o s blocks w e (inr (whole, inl unfit)) = unfit_below s w.precincts e unfit
cause_below o s blocks w e (inr (whole, inr lacks)) = lacks_below o s blocks w e lacks

choice_below : (o : Option Rule) (s : Stream) (blocks : List Block) (w : Wanted) (number place : ℕ) → HasPlanCause o s blocks w (unplanned.Choice number place) → (number < 7) ⊎ (9 < number)
unfolding IsBelow
choice_below o s blocks w number place cause = cause_below o s blocks w (unplanned.Choice number place) cause

not_seven : (o : Option Rule) (s : Stream) (blocks : List Block) (w : Wanted) (number place : ℕ) → HasPlanCause o s blocks w (unplanned.Choice number place) → number ≡ 7 → ⊥
not_seven o s blocks w number place cause e = elim (choice_below o s blocks w number place cause) [
  | inl low ↦ omega (arith, e, low)
  | inr high ↦ omega (arith, e, high)
]

not_whole : (o : Option Rule) (s : Stream) (blocks : List Block) (w : Wanted) (number place : ℕ) → HasPlanCause o s blocks w (unplanned.Choice number place) → (number ≡ 8 → ⊥) × (number ≡ 9 → ⊥)
not_whole o s blocks w number place cause = elim (choice_below o s blocks w number place cause) [
  | inl low ↦ ((λ e. omega (arith, e, low)), (λ e. omega (arith, e, low)))
  | inr high ↦ ((λ e. omega (arith, e, high)), (λ e. omega (arith, e, high)))
]

pub limit_seven : (o : Option Rule) (s : Stream) (blocks : List Block) (w : Wanted) (number found : ℕ) → HasPlanCause o s blocks w (unplanned.Limit number found) → number ≡ 7
unfolding IsBelow
limit_seven o s blocks w number found cause = cause_below o s blocks w (unplanned.Limit number found) cause

is_unplanned : (aim : Aim) (input : List ℕ) (s : Stream) (blocks : List Block) (e : PlanFault) → HasPlanCause (rule_in aim s blocks) s blocks aim.wanted e → ReadsLeft aim.reduce input s blocks → IsUnplanned aim input e
is_unplanned aim input s blocks e cause reads = record { stream = s; blocks = blocks; reads = reads; cause = cause }

has_blocks : (d : ℕ) (input : List ℕ) (s : Stream) (blocks : List Block) (n : ℕ) → n ≡ length blocks → ReadsLeft d input s blocks → HasBlocks d input n
has_blocks d input s blocks n count reads = record { stream = s; blocks = blocks; reads = reads; count_is = count }

over_short : (name : Text) (aim : Aim) (input : List ℕ) (s : Stream) (blocks : List Block) (e : PlanFault) (n : ℕ) (mm : Meaning) → (e ≡ unplanned.NoMemory → ⊥) → HasPlanCause (rule_in aim s blocks) s blocks aim.wanted e → n ≡ length blocks
    → length input ≤ aim.limit → ReadsLeft aim.reduce input s blocks → IsCutShort name aim input n mm mm
over_short name aim input s blocks e n mm caused cause count within reads = inr (inl (record {
  within = within;
  why = e;
  is = is_unplanned aim input s blocks e cause reads;
  caused = caused;
  count = has_blocks aim.reduce input s blocks n count reads;
  same = untouched mm;
}))

pub answered_unplanned : (name : Text) (work : Work) (aim : Aim) (input : List ℕ) (s : Stream) (blocks : List Block) (e : PlanFault) (n : ℕ) (mm : Meaning) → HasPlanCause (rule_in aim s blocks) s blocks aim.wanted e → n ≡ length blocks
    → length input ≤ aim.limit → ReadsLeft aim.reduce input s blocks → IsAnswered name work aim input (told_of_plan e) (blocks_told e n) 0 [] mm mm
answered_unplanned name work aim input s blocks (unplanned.Limit number found) n mm cause count within reads = record {
  verdict = λ v. inr (within, is_unplanned aim input s blocks (unplanned.Limit number found) cause reads);
  leaves = (inl (limit_seven (rule_in aim s blocks) s blocks aim.wanted number found cause, has_blocks aim.reduce input s blocks n count reads), untouched mm);
  unsaid = over_short name aim input s blocks (unplanned.Limit number found) n mm (λ e. cc) cause count within reads;
  tape = inl refl;
  whole = λ done. absurd (undone (status.Limit number found) tt done);
  taped = refl;
}
answered_unplanned name work aim input s blocks (unplanned.Choice number place) n mm cause count within reads = record {
  verdict = λ v. (within, inr (inl (is_unplanned aim input s blocks (unplanned.Choice number place) cause reads)));
  leaves = inr (not_seven (rule_in aim s blocks) s blocks aim.wanted number place cause, inl (not_whole (rule_in aim s blocks) s blocks aim.wanted number place cause, has_blocks aim.reduce input s blocks n count reads), untouched mm);
  unsaid = over_short name aim input s blocks (unplanned.Choice number place) n mm (λ e. cc) cause count within reads;
  tape = inl refl;
  whole = λ done. absurd (undone (status.Choice number place) tt done);
  taped = inr (not_seven (rule_in aim s blocks) s blocks aim.wanted number place cause, refl);
}
answered_unplanned name work aim input s blocks unplanned.NoMemory n mm cause count within reads = no_plan name work aim input mm

pub refused : (name : Text) (work : Work) (aim : Aim) (input : List ℕ) (f : StreamFault) (mm : Meaning) → length input ≤ aim.limit → IsInputCause input f
    → IsAnswered name work aim input (told_by f) 0 0 [] mm mm
refused name work aim input (fault.Rule number place) mm within cause =
    record { verdict = λ v. (within, cause); leaves = (refl, untouched mm); unsaid = refused_short name aim input mm; tape = inl refl; whole = λ done. absurd (undone (status.Rule number place) tt done); taped = refl }
refused name work aim input (fault.Limit number found) mm within cause = record {
  verdict = λ v. inl (inr (within, cause));
  leaves = (inr (stop_told input (fault.Limit number found) cause, refl), untouched mm);
  unsaid = refused_short name aim input mm;
  tape = inl refl;
  whole = λ done. absurd (undone (status.Limit number found) tt done);
  taped = refl;
}
refused name work aim input fault.NoMemory mm within cause = no_plan name work aim input mm

pub too_long : (name : Text) (work : Work) (aim : Aim) (input : List ℕ) (mm : Meaning) → aim.limit < length input → IsAnswered name work aim input (status.Limit 1 (aim.limit + 1)) 0 0 [] mm mm
too_long name work aim input mm long =
    record { verdict = λ v. inl (inl (long, refl, refl)); leaves = (inr (omega arith, refl), untouched mm); unsaid = refused_short name aim input mm; tape = inl refl; whole = λ done. absurd (undone (status.Limit 1 (aim.limit + 1)) tt done); taped = refl }

pub tile_cause : (input : List ℕ) (s : Stream) (e : StreamFault) → IsRead input s → HasCause (IsBroken input s) e → IsInputCause input e
tile_cause input s (fault.Rule number place) read broken = inr (record { stream = s; read = read; broken = broken })
tile_cause input s (fault.Limit number found) read broken = inr (record { stream = s; read = read; broken = broken })
tile_cause input s fault.NoMemory read broken = tt

no_rule : (number place : ℕ) → fault.Rule number place ≡ fault.NoMemory → ⊥
no_rule number place e = cc

no_limit : (number found : ℕ) → fault.Limit number found ≡ fault.NoMemory → ⊥
no_limit number found e = cc

pub header_cause : (input : List ℕ) (e : StreamFault) → (e ≡ fault.NoMemory) ⊎ IsFirst input e → IsInputCause input e
header_cause input (fault.Rule number place) (inl e) = absurd (no_rule number place e)
header_cause input (fault.Rule number place) (inr first) = inl first
header_cause input (fault.Limit number found) (inl e) = absurd (no_limit number found e)
header_cause input (fault.Limit number found) (inr first) = inl first
header_cause input fault.NoMemory h = tt

pub tiles_refused : (name : Text) (work : Work) (aim : Aim) (input : List ℕ) (s : Stream) (f : StreamFault) (mm : Meaning) → length input ≤ aim.limit → IsRead input s → HasCause (IsBroken input s) f
    → IsAnswered name work aim input (told_by f) 0 0 [] mm mm
tiles_refused name work aim input s f mm within read broken = refused name work aim input f mm within (tile_cause input s f read broken)

pub header_refused : (name : Text) (work : Work) (aim : Aim) (input : List ℕ) (f : StreamFault) (mm : Meaning) → length input ≤ aim.limit → (f ≡ fault.NoMemory) ⊎ IsFirst input f
    → IsAnswered name work aim input (told_by f) 0 0 [] mm mm
header_refused name work aim input f mm within first = refused name work aim input f mm within (header_cause input f first)

-- ---- what was read
pub reads_of : (input : List ℕ) (s : Stream) (blocks : List Block) → IsRead input s → totals_fault s ≡ None → IsGathered input s blocks → Reads input s blocks
reads_of input s blocks read totals gathered = record { read = read; totals = totals; gathered = gathered }

-- ---- what is told of an input or a plan is no fault of a device, and doesn't speak of the words
unfoldable pub IsTold : Status → Type 0
IsTold status.Done = Unit {0}
IsTold status.Words = ⊥
IsTold (status.Unlike how) = ⊥
IsTold (status.Rule number place) = Unit {0}
IsTold (status.Limit number found) = Unit {0}
IsTold (status.Choice number place) = Unit {0}
IsTold (status.Block number) = Unit {0}
IsTold status.ReadFault = ⊥
IsTold status.WriteFault = ⊥
IsTold status.NoMemory = Unit {0}

pub done_told : IsTold status.Done
unfolding IsTold
done_told = tt

pub block_told : (number : ℕ) → IsTold (status.Block number)
unfolding IsTold
block_told number = tt

pub choice_told : (number place : ℕ) → IsTold (status.Choice number place)
unfolding IsTold
choice_told number place = tt

pub rule_told : (number place : ℕ) → IsTold (status.Rule number place)
unfolding IsTold
rule_told number place = tt

pub limit_told : (number found : ℕ) → IsTold (status.Limit number found)
unfolding IsTold
limit_told number found = tt

pub memory_told : IsTold status.NoMemory
unfolding IsTold
memory_told = tt

input_told : (f : StreamFault) → IsTold (told_by f)
unfolding IsTold
input_told (fault.Rule number place) = tt
input_told (fault.Limit number found) = tt
input_told fault.NoMemory = tt

pub plan_told : (e : PlanFault) → IsTold (told_of_plan e)
unfolding IsTold
plan_told (unplanned.Limit number found) = tt
plan_told (unplanned.Choice number place) = tt
plan_told unplanned.NoMemory = tt

pub told_unwritten : (s : Status) → IsTold s → s ≡ status.WriteFault → ⊥
unfolding IsTold
told_unwritten s told failed = subst IsTold failed told

pub told_unread : (s : Status) → IsTold s → (s ≡ status.ReadFault → ⊥) × (s ≡ status.Words → ⊥)
unfolding IsTold
told_unread s told = (λ failed. subst IsTold failed told, λ words. subst IsTold words told)

pub input_unwritten : (f : StreamFault) (s : Status) → s ≡ told_by f → s ≡ status.WriteFault → ⊥
input_unwritten f s is = told_unwritten s (subst IsTold (sym is) (input_told f))

pub input_unread : (f : StreamFault) (s : Status) → s ≡ told_by f → (s ≡ status.ReadFault → ⊥) × (s ≡ status.Words → ⊥)
input_unread f s is = told_unread s (subst IsTold (sym is) (input_told f))

pub plan_unwritten : (e : PlanFault) (s : Status) → s ≡ told_of_plan e → s ≡ status.WriteFault → ⊥
plan_unwritten e s is = told_unwritten s (subst IsTold (sym is) (plan_told e))

pub plan_unread : (e : PlanFault) (s : Status) → s ≡ told_of_plan e → (s ≡ status.ReadFault → ⊥) × (s ≡ status.Words → ⊥)
plan_unread e s is = told_unread s (subst IsTold (sym is) (plan_told e))
