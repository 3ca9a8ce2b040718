-- Where a file's codestream lies, and what becomes of a file that is refused, or out of which so many resolutions can't be left.
use Rattle.std.proofs.Common.{◌≡◌, ◌∙◌, ◌≤◌, ◌<◌, ◌+◌, ℕ, List, [], length, Option, None, Some, ap, inl, inr, refl, sym, subst, arith}
use Rattle.jx_base.specs.Limits.{most_bytes}
use Rattle.jx_base.specs.declared.pieces.Block.{Block}
use Rattle.jx_codestream.specs.declared.Stream.{Stream}
use Rattle.jx_codestream.specs.declared.faults.StreamFault.TheVariants as fault
use Rattle.jx_io.specs.Device.{Meaning}
use Rattle.jx_cli.specs.Words.{Text}
use Rattle.jx_jp2.specs.declared.Boxed.{Boxed}
use Rattle.jx_jp2.specs.declared.faults.BoxFault.{BoxFault}
use Rattle.jx_jp2.specs.declared.faults.BoxFault.TheVariants as unboxed
use Rattle.jx_jp2.specs.Codestream.{IsCodestream, IsFault, IsJp2, content}
use Rattle.jx_options.specs.Work.{Work}
use Rattle.jx_options.specs.declared.FormChoice.{FormChoice}
use Rattle.jx_reduce.specs.Unreducible.{IsUnreducible}
use Rattle.jx_reduce.specs.declared.faults.ReduceFault.{ReduceFault}
use Rattle.jx_reduce.specs.declared.faults.ReduceFault.TheVariants as unreduced
use Rattle.jx_plan.specs.declared.faults.Misfit.{Misfit}
use Rattle.jx_plan.specs.declared.faults.PlanFault.{PlanFault}
use Rattle.jx_plan.specs.declared.faults.PlanFault.TheVariants as unplanned
use Rattle.jx_transcode.specs.Aims.{Aim, rule_in}
use Rattle.jx_transcode.specs.Filed.{IsAnswered, IsUnplannedEnd, all_told, blocks_told, told_of_all, told_of_plan}
use Rattle.jx_transcode.specs.MakeRun.{ComesOut}
use Rattle.jx_options.specs.Wanted.{Wanted}
use Rattle.jx_layers.specs.Rule.{Rule}
use Rattle.jx_transcode.specs.Misfits.{IsMisfitBy, IsMisfitOfFile}
use Rattle.jx_transcode.specs.declared.rewrite.Ending.{Ending}
use Rattle.jx_transcode.specs.Jp2Run.{EndsAround, EndsJp2, IsPastRules}
use Rattle.jx_transcode.specs.Judged.{Passes, Violates}
use Rattle.jx_transcode.specs.Rewritten.{Reads, ReadsLeft}
use Rattle.jx_transcode.specs.Sources.{HasCodestream, IsUnfit, LiesIn, told_of_boxes}
use Rattle.jx_transcode.specs.declared.status.Status.{Status}
use Rattle.jx_transcode.specs.declared.status.Status.TheVariants as status
use Rattle.jx_transcode.proofs.AroundLemmas.{around_refused, boxes_refused, too_long_jp2}
use Rattle.jx_transcode.proofs.DoneLemmas.{IsOther, undone}
use Rattle.jx_rounds.proofs.FiledLemmas.{untouched}
use Rattle.jx_transcode.proofs.JudgeLemmas.{content_short}
use Rattle.jx_transcode.proofs.MakeLemmas.{comes_unmade}
use Rattle.jx_transcode.proofs.MisfitLemmas.{planned_misfit}
use Rattle.jx_transcode.proofs.ReducedLemmas.{WholeLaws, all_is_told, answered_unreduced}
use Rattle.jx_transcode.proofs.RefusedLemmas.{IsTold, answered_unplanned, limit_told, memory_told, no_plan, plan_told, refused, rule_told, too_long}
use Rattle.jx_transcode.proofs.ToldLemmas.{stop_told}

-- ---- by whether the file is JP2
pub lies_bare : (input : List ℕ) (boxed : Option Boxed) (from : ℕ) (inner : List ℕ) → boxed ≡ None → LiesIn input boxed from inner → (IsJp2 input → ⊥) × (inner ≡ input)
lies_bare input None from inner is lies = (lies.0, lies.2)
lies_bare input (Some b) from inner is lies = absurd (cc)

pub lies_boxed : (input : List ℕ) (boxed : Option Boxed) (from : ℕ) (inner : List ℕ) (b : Boxed) → boxed ≡ Some b → LiesIn input boxed from inner → IsJp2 input × IsCodestream input b × (inner ≡ content input b)
lies_boxed input None from inner b is lies = absurd (cc)
lies_boxed input (Some own) from inner b is lies =
    let same : own ≡ b = cc in (lies.0, subst (λ (x : Boxed). IsCodestream input x) same lies.1, subst (λ (x : Boxed). inner ≡ content input x) same lies.3)

pub lies_has : (input : List ℕ) (boxed : Option Boxed) (from : ℕ) (inner : List ℕ) → LiesIn input boxed from inner → HasCodestream input from inner
lies_has input None from inner lies = inl lies
lies_has input (Some b) from inner lies = inr (lies.0, b, lies.1, lies.2, lies.3)

-- ---- boxes that can't be told
pub boxes_unfit : (limit : ℕ) (input : List ℕ) (f : BoxFault) → length input ≤ limit → IsJp2 input → IsFault input f → IsUnfit limit input (told_of_boxes f)
boxes_unfit limit input (unboxed.Rule number place) within is broken = (within, inl (is, broken))
boxes_unfit limit input unboxed.NoMemory within is broken = tt

-- ---- a file that is refused
violates_bare : (name : Text) (work : Work) (aim : Aim) (input : List ℕ) (number place from : ℕ) (inner : List ℕ) (at : ℕ) (mm : Meaning) → (IsJp2 input → ⊥) → length input ≤ aim.limit → HasCodestream input from inner → place ≡ from + at
    → Violates inner number at → IsAnswered name work aim input (status.Rule number place) 0 0 [] mm mm
violates_bare name work aim input number place from inner at mm not within (inl own) e broken =
    let here : place ≡ at = omega (arith, e, own.1) in
    let is : Violates input number at = subst (λ (b : List ℕ). Violates b number at) own.2 broken in
    subst (λ (n : ℕ). IsAnswered name work aim input (status.Rule number n) 0 0 [] mm mm) (sym here) (refused name work aim input (fault.Rule number at) mm within is)
violates_bare name work aim input number place from inner at mm not within (inr boxed) e broken = absurd (not boxed.0)

passes_bare : (name : Text) (work : Work) (aim : Aim) (input : List ℕ) (number found from : ℕ) (inner : List ℕ) (mm : Meaning) → (IsJp2 input → ⊥) → length input ≤ aim.limit → HasCodestream input from inner → Passes inner number found
    → IsAnswered name work aim input (status.Limit number found) 0 0 [] mm mm
passes_bare name work aim input number found from inner mm not within (inl own) passed =
    refused name work aim input (fault.Limit number found) mm within (subst (λ (b : List ℕ). Passes b number found) own.2 passed)
passes_bare name work aim input number found from inner mm not within (inr boxed) passed = absurd (not boxed.0)

pub unfit_bare : (name : Text) (work : Work) (aim : Aim) (input : List ℕ) (s : Status) (mm : Meaning) → (IsJp2 input → ⊥) → IsUnfit aim.limit input s → IsAnswered name work aim input s 0 0 [] mm mm
unfit_bare name work aim input (status.Rule number place) mm not (within, inl boxes) = absurd (not boxes.0)
unfit_bare name work aim input (status.Rule number place) mm not (within, inr (from, inner, at, has, e, broken)) = violates_bare name work aim input number place from inner at mm not within has e broken
unfit_bare name work aim input (status.Limit number found) mm not (inl long) = rw (long.1, long.2) (too_long name work aim input mm long.0)
unfit_bare name work aim input (status.Limit number found) mm not (inr (within, from, inner, has, passed)) = passes_bare name work aim input number found from inner mm not within has passed
unfit_bare name work aim input status.NoMemory mm not is = no_plan name work aim input mm
unfit_bare name work aim input status.Done mm not is = absurd is
unfit_bare name work aim input status.Words mm not is = absurd is
unfit_bare name work aim input (status.Choice number place) mm not is = absurd is
unfit_bare name work aim input (status.Block number) mm not is = absurd is
unfit_bare name work aim input (status.Unlike how) mm not is = absurd is
unfit_bare name work aim input status.ReadFault mm not is = absurd is
unfit_bare name work aim input status.WriteFault mm not is = absurd is

violates_jp2 : (name : Text) (work : Work) (kind : FormChoice) (aim : Aim) (input : List ℕ) (number place from : ℕ) (inner : List ℕ) (at : ℕ) (mm : Meaning) → IsJp2 input → length input ≤ aim.limit → HasCodestream input from inner → place ≡ from + at
    → Violates inner number at → EndsJp2 name work kind aim input (status.Rule number place) 0 0 [] mm mm
violates_jp2 name work kind aim input number place from inner at mm is within (inl own) e broken = absurd (own.0 is)
violates_jp2 name work kind aim input number place from inner at mm is within (inr (jp2, boxed, found, begins, same)) e broken = inr (
  boxed,
  record {
    within = within;
    found = found;
    verdict = λ v. (at, e ∙ ap (λ (n : ℕ). n + at) begins, (content_short aim.limit input boxed within, subst (λ (b : List ℕ). Violates b number at) same broken));
    out = [];
    tells = refl;
    leaves = inr (undone (status.Rule number place) tt, untouched mm);
    tape = inl refl;
    whole = λ done. absurd (undone (status.Rule number place) tt done);
    taped = refl;
  },
)

passes_jp2 : (name : Text) (work : Work) (kind : FormChoice) (aim : Aim) (input : List ℕ) (number found from : ℕ) (inner : List ℕ) (mm : Meaning) → IsJp2 input → length input ≤ aim.limit → HasCodestream input from inner → Passes inner number found
    → EndsJp2 name work kind aim input (status.Limit number found) 0 0 [] mm mm
passes_jp2 name work kind aim input number found from inner mm is within (inl own) passed = absurd (own.0 is)
passes_jp2 name work kind aim input number found from inner mm is within (inr (jp2, boxed, lies, begins, same)) passed =
    let here : Passes (content input boxed) number found = subst (λ (b : List ℕ). Passes b number found) same passed in
    inr (
      boxed,
      record {
        within = within;
        found = lies;
        verdict = λ v. inl (inr (content_short aim.limit input boxed within, here));
        out = [];
        tells = inr (stop_told (content input boxed) (fault.Limit number found) here, refl);
        leaves = inr (undone (status.Limit number found) tt, untouched mm);
        tape = inl refl;
        whole = λ done. absurd (undone (status.Limit number found) tt done);
        taped = refl;
      },
    )

pub unfit_jp2 : (name : Text) (work : Work) (kind : FormChoice) (aim : Aim) (input : List ℕ) (s : Status) (mm : Meaning) → IsJp2 input → IsUnfit aim.limit input s → EndsJp2 name work kind aim input s 0 0 [] mm mm
unfit_jp2 name work kind aim input (status.Rule number place) mm is (within, inl boxes) = boxes_refused name work kind aim input number place mm within boxes.1
unfit_jp2 name work kind aim input (status.Rule number place) mm is (within, inr (from, inner, at, has, e, broken)) = violates_jp2 name work kind aim input number place from inner at mm is within has e broken
unfit_jp2 name work kind aim input (status.Limit number found) mm is (inl long) = rw (long.1, long.2) (too_long_jp2 name work kind aim input mm long.0)
unfit_jp2 name work kind aim input (status.Limit number found) mm is (inr (within, from, inner, has, passed)) = passes_jp2 name work kind aim input number found from inner mm is within has passed
unfit_jp2 name work kind aim input status.NoMemory mm is unfit = inl (record { verdict = λ v. absurd v; none = refl; tape = refl; same = untouched mm })
unfit_jp2 name work kind aim input status.Done mm is unfit = absurd unfit
unfit_jp2 name work kind aim input status.Words mm is unfit = absurd unfit
unfit_jp2 name work kind aim input (status.Choice number place) mm is unfit = absurd unfit
unfit_jp2 name work kind aim input (status.Block number) mm is unfit = absurd unfit
unfit_jp2 name work kind aim input (status.Unlike how) mm is unfit = absurd unfit
unfit_jp2 name work kind aim input status.ReadFault mm is unfit = absurd unfit
unfit_jp2 name work kind aim input status.WriteFault mm is unfit = absurd unfit

-- ---- resolutions that can't be left out
unreduced_other : (e : ReduceFault) → IsOther (told_of_all e)
unreduced_other (unreduced.Choice number place) = tt
unreduced_other unreduced.NoMemory = tt

unreduced_past : (e : ReduceFault) → IsPastRules (told_of_all e)
unreduced_past (unreduced.Choice number place) = tt
unreduced_past unreduced.NoMemory = tt

-- the codestream of a file, with its code-blocks
pub record IsFound (aim : Aim) (input : List ℕ) (boxed : Option Boxed) (from : ℕ) (inner : List ℕ) (s : Stream) (blocks : List Block) : Type 0 where
  pub within : length input ≤ aim.limit
  pub short : length input ≤ most_bytes
  pub lies : LiesIn input boxed from inner
  pub reads : Reads inner s blocks

pub unreduced_bare : WholeLaws → (name : Text) (work : Work) (aim : Aim) (input : List ℕ) (boxed : Option Boxed) (from : ℕ) (inner : List ℕ) (s : Stream) (blocks : List Block) (e : ReduceFault) (n : ℕ) (mm : Meaning)
    → IsFound aim input boxed from inner s blocks → IsUnreducible aim.reduce s e → n ≡ length blocks → (IsJp2 input → ⊥) → IsAnswered name work aim input (told_of_all e) (all_told e n) 0 [] mm mm
unreduced_bare laws name work aim input None from inner s blocks e n mm is cause count not =
    answered_unreduced laws name work aim input s blocks e n mm cause count is.within is.short (subst (λ (b : List ℕ). Reads b s blocks) is.lies.2 is.reads)
unreduced_bare laws name work aim input (Some boxed) from inner s blocks e n mm is cause count not = absurd (not is.lies.0)

pub unreduced_jp2 : WholeLaws → (name : Text) (work : Work) (kind : FormChoice) (aim : Aim) (input : List ℕ) (boxed : Option Boxed) (from : ℕ) (inner : List ℕ) (s : Stream) (blocks : List Block) (e : ReduceFault) (n : ℕ) (mm : Meaning)
    → IsFound aim input boxed from inner s blocks → IsUnreducible aim.reduce s e → n ≡ length blocks → IsJp2 input → EndsJp2 name work kind aim input (told_of_all e) (all_told e n) 0 [] mm mm
unreduced_jp2 laws name work kind aim input None from inner s blocks e n mm is cause count jp2 = absurd (is.lies.0 jp2)
unreduced_jp2 laws name work kind aim input (Some boxed) from inner s blocks e n mm is cause count jp2 =
    let own : IsAnswered [] work aim (content input boxed) (told_of_all e) (all_told e n) 0 [] mm mm =
    answered_unreduced laws [] work aim (content input boxed) s blocks e n mm cause count (content_short aim.limit input boxed is.within) (content_short most_bytes input boxed is.short)
    (subst (λ (b : List ℕ). Reads b s blocks) is.lies.3 is.reads) in
    let comes : ComesOut work aim (content input boxed) (told_of_all e) (all_told e n) [] [] =
    comes_unmade [] work aim (content input boxed) (told_of_all e) (all_told e n) 0 [] mm mm (all_is_told e) (unreduced_other e) own in
    inr (boxed, around_refused name work kind aim input boxed (told_of_all e) (all_told e n) [] [] mm is.within is.lies.1 comes (unreduced_past e) (undone (told_of_all e) (unreduced_other e)))

-- ---- what is left isn't planned
pub unplanned_other : (e : PlanFault) → IsOther (told_of_plan e)
unplanned_other (unplanned.Limit number found) = tt
unplanned_other (unplanned.Choice number place) = tt
unplanned_other unplanned.NoMemory = tt

unplanned_past : (e : PlanFault) → IsPastRules (told_of_plan e)
unplanned_past (unplanned.Limit number found) = tt
unplanned_past (unplanned.Choice number place) = tt
unplanned_past unplanned.NoMemory = tt

-- what is left of the codestream of a file
pub record IsLeftIn (aim : Aim) (input : List ℕ) (boxed : Option Boxed) (from : ℕ) (inner : List ℕ) (s : Stream) (blocks : List Block) : Type 0 where
  pub within : length input ≤ aim.limit
  pub lies : LiesIn input boxed from inner
  pub left : ReadsLeft aim.reduce inner s blocks

pub unplanned_bare : (name : Text) (work : Work) (aim : Aim) (input : List ℕ) (boxed : Option Boxed) (from : ℕ) (inner : List ℕ) (s : Stream) (blocks : List Block) (ending : Ending) (mm : Meaning) → IsLeftIn aim input boxed from inner s blocks
    → IsUnplannedEnd (rule_in aim s blocks) s blocks aim.wanted ending → (IsJp2 input → ⊥) → IsAnswered name work aim input ending.status ending.blocks ending.bytes ending.tape.items mm mm
unplanned_bare name work aim input None from inner s blocks ending mm is over not = rw (over.status_is, over.count_is, over.none, over.tape)
    (answered_unplanned name work aim input s blocks over.why (length blocks) mm over.cause refl is.within (subst (λ (b : List ℕ). ReadsLeft aim.reduce b s blocks) is.lies.2 is.left))
unplanned_bare name work aim input (Some boxed) from inner s blocks ending mm is over not = absurd (not is.lies.0)

pub unplanned_jp2 : (name : Text) (work : Work) (kind : FormChoice) (aim : Aim) (input : List ℕ) (boxed : Option Boxed) (from : ℕ) (inner : List ℕ) (s : Stream) (blocks : List Block) (ending : Ending) (mm : Meaning) → IsLeftIn aim input boxed from inner s blocks
    → IsUnplannedEnd (rule_in aim s blocks) s blocks aim.wanted ending → IsJp2 input → EndsJp2 name work kind aim input ending.status ending.blocks ending.bytes ending.tape.items mm mm
unplanned_jp2 name work kind aim input None from inner s blocks ending mm is over jp2 = absurd (is.lies.0 jp2)
unplanned_jp2 name work kind aim input (Some boxed) from inner s blocks ending mm is over jp2 = rw (over.status_is, over.count_is, over.none, over.tape)
    (let own : IsAnswered [] work aim (content input boxed) (told_of_plan over.why) (blocks_told over.why (length blocks)) 0 [] mm mm =
    answered_unplanned [] work aim (content input boxed) s blocks over.why (length blocks) mm over.cause refl (content_short aim.limit input boxed is.within)
    (subst (λ (b : List ℕ). ReadsLeft aim.reduce b s blocks) is.lies.3 is.left) in
    let comes : ComesOut work aim (content input boxed) (told_of_plan over.why) (blocks_told over.why (length blocks)) [] [] =
    comes_unmade [] work aim (content input boxed) (told_of_plan over.why) (blocks_told over.why (length blocks)) 0 [] mm mm (plan_told over.why) (unplanned_other over.why) own in
    inr (boxed, around_refused name work kind aim input boxed (told_of_plan over.why) (blocks_told over.why (length blocks)) [] [] mm is.within is.lies.1 comes (unplanned_past over.why) (undone (told_of_plan over.why) (unplanned_other over.why))))

pub unplanned_misfit : (w : Wanted) (rule : Option Rule) (d limit : ℕ) (input : List ℕ) (boxed : Option Boxed) (from : ℕ) (inner : List ℕ) (s : Stream) (blocks : List Block) (ending : Ending) (m : Misfit) → length input ≤ limit
    → LiesIn input boxed from inner → ReadsLeft d inner s blocks → (over : IsUnplannedEnd rule s blocks w ending) → IsMisfitBy w.precincts s over.why m → IsMisfitOfFile w.precincts d limit input ending.status m
unplanned_misfit w rule d limit input None from inner s blocks ending m within lies left over by = inl (
  lies.0,
  rw (sym lies.2) (planned_misfit w.precincts d limit inner s blocks over.why ending.status m (rw lies.2 within) left over.status_is by),
)
unplanned_misfit w rule d limit input (Some boxed) from inner s blocks ending m within lies left over by = inr (
  lies.0,
  (
    within,
    boxed,
    lies.1,
    rw (sym lies.3) (planned_misfit w.precincts d limit inner s blocks over.why ending.status m (rw lies.3 (content_short limit input boxed within)) left over.status_is by),
  ),
)

-- ---- what is told of a file that is refused is no fault of a device, and doesn't speak of the words
pub unfit_apart : (limit : ℕ) (input : List ℕ) (s : Status) → IsUnfit limit input s → (s ≡ status.WriteFault → ⊥) × (s ≡ status.ReadFault → ⊥) × (s ≡ status.Words → ⊥)
unfit_apart limit input s is = (λ e. subst (IsUnfit limit input) e is, λ e. subst (IsUnfit limit input) e is, λ e. subst (IsUnfit limit input) e is)

pub unfit_undone : (limit : ℕ) (input : List ℕ) (s : Status) → IsUnfit limit input s → s ≡ status.Done → ⊥
unfit_undone limit input s is done = subst (IsUnfit limit input) done is

-- ---- what is left of a codestream
pub left_bare : (d : ℕ) (input inner : List ℕ) (boxed : Option Boxed) (from : ℕ) (s : Stream) (blocks : List Block) → boxed ≡ None → LiesIn input boxed from inner → ReadsLeft d inner s blocks → ReadsLeft d input s blocks
left_bare d input inner boxed from s blocks none lies left = subst (λ (b : List ℕ). ReadsLeft d b s blocks) (lies_bare input boxed from inner none lies).1 left

pub left_boxed : (d : ℕ) (input inner : List ℕ) (boxed : Option Boxed) (from : ℕ) (s : Stream) (blocks : List Block) (b : Boxed) → boxed ≡ Some b → LiesIn input boxed from inner → ReadsLeft d inner s blocks → ReadsLeft d (content input b) s blocks
left_boxed d input inner boxed from s blocks b some lies left = subst (λ (x : List ℕ). ReadsLeft d x s blocks) (lies_boxed input boxed from inner b some lies).2 left

-- ---- a refusal is told, and isn't Done
pub unfit_told : (limit : ℕ) (input : List ℕ) (s : Status) → IsUnfit limit input s → IsTold s
unfit_told limit input (status.Rule number place) is = rule_told number place
unfit_told limit input (status.Limit number found) is = limit_told number found
unfit_told limit input status.NoMemory is = memory_told
unfit_told limit input status.Done is = absurd is
unfit_told limit input status.Words is = absurd is
unfit_told limit input (status.Choice number place) is = absurd is
unfit_told limit input (status.Block number) is = absurd is
unfit_told limit input (status.Unlike how) is = absurd is
unfit_told limit input status.ReadFault is = absurd is
unfit_told limit input status.WriteFault is = absurd is

pub unfit_other : (limit : ℕ) (input : List ℕ) (s : Status) → IsUnfit limit input s → IsOther s
unfit_other limit input (status.Rule number place) is = tt
unfit_other limit input (status.Limit number found) is = tt
unfit_other limit input status.NoMemory is = tt
unfit_other limit input status.Done is = absurd is
unfit_other limit input status.Words is = absurd is
unfit_other limit input (status.Choice number place) is = absurd is
unfit_other limit input (status.Block number) is = absurd is
unfit_other limit input (status.Unlike how) is = absurd is
unfit_other limit input status.ReadFault is = absurd is
unfit_other limit input status.WriteFault is = absurd is
