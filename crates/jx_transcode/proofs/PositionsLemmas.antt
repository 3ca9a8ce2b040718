-- Whether boxes that hold positions in the file were kept.
use Rattle.std.proofs.Common.{◌≡◌, ◌∙◌, ◌↔◌, ◌⊎◌, ◌≤◌, ℕ, Bool, List, length, inl, inr, refl, sym, subst, Option, Some, None, IfSome, IsTrue}
use Rattle.jx_io.specs.Device.{Meaning, joined}
use Rattle.jx_cli.specs.Words.{Request, Text}
use Rattle.jx_options.specs.Work.{Work}
use Rattle.jx_options.specs.declared.FormChoice.{FormChoice}
use Rattle.jx_rounds.specs.declared.tape.TapeEntry.{TapeEntry}
use Rattle.jx_transcode.specs.Aims.{Aim}
use Rattle.jx_transcode.specs.Filed.{IsAnswered}
use Rattle.jx_transcode.specs.Jp2Run.{EndsJp2, KeepsPositions, RefusesBoxes}
use Rattle.jx_transcode.specs.Outcome.{EndsAs, IsVerdict, Verdict}
use Rattle.jx_transcode.specs.TranscodeRun.{TellsPositions}
use Rattle.jx_transcode.specs.declared.status.Status.{Status}
use Rattle.jx_transcode.specs.declared.status.Status.TheVariants as status
use Rattle.jx_transcode.proofs.DoneLemmas.{undone}
use Rattle.jx_transcode.proofs.LeftLemmas.{IsFront, short_told}

-- ---- what is done has as many bytes as it may have
pub bare_short : (name : Text) (work : Work) (aim : Aim) (input : List ℕ) (s : Status) (blocks bytes : ℕ) (tape : List TapeEntry) (old new : Meaning) → IsAnswered name work aim input s blocks bytes tape old new → s ≡ status.Done
    → length input ≤ aim.limit
bare_short name work aim input s blocks bytes tape old new is done =
    let verdict : Verdict aim input status.Done = subst (λ (x : Status). IsVerdict x → Verdict aim input x) done is.verdict tt in
    verdict.0

pub jp2_short : (name : Text) (work : Work) (kind : FormChoice) (aim : Aim) (input : List ℕ) (s : Status) (blocks bytes : ℕ) (tape : List TapeEntry) (old new : Meaning) → EndsJp2 name work kind aim input s blocks bytes tape old new
    → s ≡ status.Done → length input ≤ aim.limit
jp2_short name work kind aim input s blocks bytes tape old new (inl before) done =
    let refused : RefusesBoxes aim.limit input status.Done = subst (λ (x : Status). IsVerdict x → RefusesBoxes aim.limit input x) done before.verdict tt in
    absurd refused
jp2_short name work kind aim input s blocks bytes tape old new (inr around) done = around.1.within

-- ---- a run whose line was said had the same status before it
pub done_said : (s late : Status) (line : List ℕ) (before now : Option (List ℕ)) (fault_before fault_now : ℕ) → EndsAs s line late before now fault_before fault_now → late ≡ status.Done → s ≡ status.Done
done_said s late line before now fault_before fault_now (inl said) done = sym said.0 ∙ done
done_said s late line before now fault_before fault_now (inr (inl fault)) done = absurd (undone status.WriteFault tt (sym fault.0 ∙ done))
done_said s late line before now fault_before fault_now (inr (inr short)) done = absurd (undone status.NoMemory tt (sym short.0 ∙ done))

-- ---- what is told of the bytes that were read is told of the input
told_of : (kind : FormChoice) (told positions : Bool) (s late : Status) (held : Option (List ℕ)) (read : List ℕ) → IfSome held (λ bytes. read ≡ bytes) → (IsTrue positions ↔ KeepsPositions kind read s)
    → (IsTrue told ↔ (IsTrue positions × (late ≡ status.Done))) → (late ≡ status.Done → s ≡ status.Done) → IfSome held (λ bytes. IsTrue told ↔ KeepsPositions kind bytes late)
told_of kind told positions s late None read same kept is done = tt
told_of kind told positions s late (Some bytes) read same kept is done = (
  λ t. let both = is.0 t in let keeps = kept.0 both.0 in subst (λ (b : List ℕ). KeepsPositions kind b late) same (both.1, keeps.1, keeps.2, keeps.3),
  λ keeps. is.1 (kept.1 (subst (λ (b : List ℕ). KeepsPositions kind b s) (sym same) (done keeps.0, keeps.1, keeps.2, keeps.3)), keeps.0),
)

never_told : (kind : FormChoice) (told : Bool) (late : Status) (held : Option (List ℕ)) → (IsTrue told → ⊥) → (late ≡ status.Done → ⊥) → IfSome held (λ bytes. IsTrue told ↔ KeepsPositions kind bytes late)
never_told kind told late None not other = tt
never_told kind told late (Some bytes) not other = (λ t. absurd (not t), λ keeps. absurd (other keeps.0))

pub positions_untold : (request : Request) (told : Bool) (late : Status) (old : Meaning) → (IsTrue told → ⊥) → (late ≡ status.Done → ⊥) → TellsPositions request told late old
positions_untold request told late old not other = never_told request.form told late (joined (old.holds request.from)) not other

pub positions_told : (request : Request) (told positions : Bool) (s late : Status) (old : Meaning) (read : List ℕ) → IsFront request.limit (joined (old.holds request.from)) read → (s ≡ status.Done → length read ≤ request.limit)
    → (IsTrue positions ↔ KeepsPositions request.form read s) → (IsTrue told ↔ (IsTrue positions × (late ≡ status.Done))) → (late ≡ status.Done → s ≡ status.Done) → TellsPositions request told late old
positions_told request told positions s late old read front short kept is done = elim (is_done late) [
  | inl ended ↦ told_of request.form told positions s late (joined (old.holds request.from)) read (short_told request.limit (joined (old.holds request.from)) read front (short (done ended))) kept is done
  | inr other ↦ positions_untold request told late old (λ t. other (is.0 t).1) other
]
  where
    is_done : (x : Status) → (x ≡ status.Done) ⊎ (x ≡ status.Done → ⊥)
    is_done status.Done = inl refl
    is_done status.Words = inr (undone status.Words tt)
    is_done (status.Unlike how) = inr (undone (status.Unlike how) tt)
    is_done (status.Rule number place) = inr (undone (status.Rule number place) tt)
    is_done (status.Limit number found) = inr (undone (status.Limit number found) tt)
    is_done (status.Choice number place) = inr (undone (status.Choice number place) tt)
    is_done (status.Block number) = inr (undone (status.Block number) tt)
    is_done status.ReadFault = inr (undone status.ReadFault tt)
    is_done status.WriteFault = inr (undone status.WriteFault tt)
    is_done status.NoMemory = inr (undone status.NoMemory tt)

-- words that weren't read, or an input
pub unread_undone : (s : Status) → (s ≡ status.ReadFault) ⊎ (s ≡ status.NoMemory) → s ≡ status.Done → ⊥
unread_undone s (inl is) done = undone status.ReadFault tt (sym is ∙ done)
unread_undone s (inr is) done = undone status.NoMemory tt (sym is ∙ done)
