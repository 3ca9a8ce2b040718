-- What is told beside choice 2.
use Rattle.std.proofs.Common.{◌≡◌, ◌∙◌, ◌≤◌, ℕ, List, length, ap, refl, sym, subst, arith, inl, inr, Option, Some, None, IfSome}
use Rattle.jx_base.specs.declared.pieces.Block.{Block}
use Rattle.jx_base.specs.declared.style.Style.{Style}
use Rattle.jx_io.specs.Device.{Meaning, joined}
use Rattle.jx_cli.specs.Words.{Request}
use Rattle.jx_codestream.specs.declared.Stream.{Stream}
use Rattle.jx_layers.specs.Rule.{Rule}
use Rattle.jx_plan.specs.declared.faults.Misfit.{Misfit}
use Rattle.jx_plan.specs.declared.faults.PlanFault.{PlanFault}
use Rattle.jx_plan.specs.declared.faults.PlanFault.TheVariants as unplanned
use Rattle.jx_plan.specs.Causes.{IsLate, IsPlaneBroken}
use Rattle.jx_plan.specs.Fits.{AreUnfit, IsMisfitAt}
use Rattle.jx_plan.specs.Planned.{HasPlanCause, IsUnplannedBy, LacksPlan, layers_of_rule}
use Rattle.jx_options.specs.Wanted.{Wanted}
use Rattle.jx_transcode.specs.Filed.{told_of_plan}
use Rattle.jx_transcode.specs.Misfits.{HasTile, IsChoice, IsMisfitBy, IsMisfitOf, IsMisfitOfFile, TellsMisfit}
use Rattle.jx_transcode.specs.Outcome.{EndsAs}
use Rattle.jx_transcode.specs.Rewritten.{ReadsLeft}
use Rattle.jx_transcode.specs.declared.status.Status.{Status}
use Rattle.jx_transcode.specs.declared.status.Status.TheVariants as status
use Rattle.jx_transcode.proofs.LeftLemmas.{IsFront, short_told}

-- ---- options
pub untold : {X : Type 0} (P : X → Type 0) (o : Option X) → o ≡ None → IfSome o P
untold P None none = tt
untold P (Some x) none = absurd (cc)

pub told_on : {X : Type 0} (P Q : X → Type 0) (o p : Option X) → IfSome p (λ x. o ≡ Some x) → ((x : X) → P x → Q x) → IfSome o P → IfSome p Q
told_on P Q o None same step is = tt
told_on P Q o (Some x) same step is = step x (subst (λ q. IfSome q P) same is)

-- what follows from a fact, so that both can be rewritten at once
pub so : {A B : Type 0} → A → (A → B) → B
so is then = then is

pub each_told : {X : Type 0} (o : Option X) → IfSome o (λ x. o ≡ Some x)
each_told None = tt
each_told (Some x) = refl

pub told_with : {X : Type 0} (P : Type 0) (o : Option X) → P → IfSome o (λ x. (o ≡ Some x) × P)
told_with P None is = tt
told_with P (Some x) is = (refl, is)

pub none_still : {X : Type 0} (o p : Option X) (Q : X → Type 0) → o ≡ None → IfSome p (λ x. (o ≡ Some x) × Q x) → p ≡ None
none_still o None Q none is = refl
none_still o (Some x) Q none is = absurd (let e = is.0 in cc)

-- ---- a status that is a choice is that which was to be said
failed_no_choice : (s : Status) → s ≡ status.WriteFault → IsChoice s → ⊥
failed_no_choice s is choice = subst IsChoice is choice

refused_no_choice : (s : Status) → s ≡ status.NoMemory → IsChoice s → ⊥
refused_no_choice s is choice = subst IsChoice is choice

pub still_said : (s : Status) (line : List ℕ) (late : Status) (before now : Option (List ℕ)) (fault_before fault_now : ℕ) → EndsAs s line late before now fault_before fault_now → IsChoice late → late ≡ s
still_said s line late before now fault_before fault_now (inl said) choice = said.0
still_said s line late before now fault_before fault_now (inr (inl failed)) choice = absurd (failed_no_choice late failed.0 choice)
still_said s line late before now fault_before fault_now (inr (inr refused)) choice = absurd (refused_no_choice late refused.0 choice)

-- ---- choice 2 is of a tile that is there
broken_tile : (s : Stream) (style : Option Style) (blocks : List Block) (e : PlanFault) → IsPlaneBroken style blocks e → HasTile s e
broken_tile s style blocks (unplanned.Choice number place) is = λ two. absurd (omega (arith, is.0, two))
broken_tile s style blocks (unplanned.Limit number found) is = tt
broken_tile s style blocks unplanned.NoMemory is = tt

unfit_tile : (s : Stream) (precincts : Option (List ℕ)) (e : PlanFault) → AreUnfit s precincts e → HasTile s e
unfit_tile s precincts (unplanned.Choice number place) (inl above) = λ two. absurd (omega (arith, above.0, two))
unfit_tile s precincts (unplanned.Choice number place) (inr changed) = λ two. changed.1.inside
unfit_tile s precincts (unplanned.Limit number found) is = tt
unfit_tile s precincts unplanned.NoMemory is = tt

late_tile : (s : Stream) (w : Wanted) (layers number place : ℕ) → IsLate s w layers number place → number ≡ 2 → ⊥
late_tile s w layers number place (inl five) two = omega (arith, five.0, two)
late_tile s w layers number place (inr (inl ten)) two = omega (arith, ten.0, two)
late_tile s w layers number place (inr (inr eleven)) two = omega (arith, eleven.0, two)

by_tile : (r : Rule) (s : Stream) (blocks : List Block) (w : Wanted) (e : PlanFault) → IsUnplannedBy r s blocks w e → HasTile s e
by_tile r s blocks w (unplanned.Choice number place) (inl stray) = λ two. absurd (omega (arith, stray.0, two))
by_tile r s blocks w (unplanned.Choice number place) (inr (inl crowded)) = λ two. absurd (omega (arith, crowded.0, two))
by_tile r s blocks w (unplanned.Choice number place) (inr (inr late)) = λ two. absurd (late_tile s w (layers_of_rule r s blocks) number place late.cause two)
by_tile r s blocks w (unplanned.Limit number found) is = tt
by_tile r s blocks w unplanned.NoMemory is = tt

lacking_tile : (rule : Option Rule) (s : Stream) (blocks : List Block) (w : Wanted) (e : PlanFault) → LacksPlan rule s blocks w e → HasTile s e
lacking_tile None s blocks w e is = subst (HasTile s) (sym is.1) (λ two. absurd (omega (arith, two)))
lacking_tile (Some r) s blocks w e is = by_tile r s blocks w e is

pub caused_tile : (rule : Option Rule) (s : Stream) (blocks : List Block) (w : Wanted) (e : PlanFault) → HasPlanCause rule s blocks w e → HasTile s e
caused_tile rule s blocks w e (inl broken) = broken_tile s w.style blocks e broken
caused_tile rule s blocks w e (inr (whole, inl unfit)) = unfit_tile s w.precincts e unfit
caused_tile rule s blocks w e (inr (whole, inr lacks)) = lacking_tile rule s blocks w e lacks

-- ---- from the plan's fault to the status, and to what the device tells
pub planned_misfit : (precincts : Option (List ℕ)) (d limit : ℕ) (input : List ℕ) (stream : Stream) (blocks : List Block) (e : PlanFault) (s : Status) (m : Misfit) → length input ≤ limit → ReadsLeft d input stream blocks → s ≡ told_of_plan e
    → IsMisfitBy precincts stream e m → IsMisfitOf precincts d limit input s m
planned_misfit precincts d limit input stream blocks (unplanned.Choice number place) s m within left told is = record {
  within = within;
  stream = left.whole;
  read = left.reads.read;
  tile = place;
  is = told ∙ ap (λ (n : ℕ). status.Choice n place) is.0;
  first = subst (λ (x : Stream). IsMisfitAt precincts x place m) left.stream is.1;
}
planned_misfit precincts d limit input stream blocks (unplanned.Limit number found) s m within left told is = absurd is
planned_misfit precincts d limit input stream blocks unplanned.NoMemory s m within left told is = absurd is

pub misfit_within : (precincts : Option (List ℕ)) (d limit : ℕ) (input : List ℕ) (s : Status) (m : Misfit) → IsMisfitOfFile precincts d limit input s m → length input ≤ limit
misfit_within precincts d limit input s m (inl bare) = bare.1.within
misfit_within precincts d limit input s m (inr jp2) = jp2.1.0

pub misfit_told : (request : Request) (wanted : Wanted) (d limit : ℕ) (read : List ℕ) (s late : Status) (old : Meaning) (told : Option Misfit) (m : Misfit) → IsFront limit (joined (old.holds request.from)) read → wanted ≡ request.wanted → d ≡ request.reduce → limit ≡ request.limit
    → IfSome told (λ m. IsMisfitOfFile wanted.precincts d limit read s m) → (told ≡ Some m) × (late ≡ s) → TellsMisfit request m late old
misfit_told request wanted d limit read s late old told m front same many most is now =
    let here : IsMisfitOfFile wanted.precincts d limit read s m = subst (λ o. IfSome o (λ m. IsMisfitOfFile wanted.precincts d limit read s m)) now.0 is in
    record {
      input = read;
      told = short_told limit (joined (old.holds request.from)) read front (misfit_within wanted.precincts d limit read s m here);
      is = rw (now.1, ← same, ← many, ← most) here;
    }
