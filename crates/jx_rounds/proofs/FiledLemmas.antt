-- A codestream that is written to a file: what stands under its name.
use Rattle.std.proofs.Common.{◌≡◌, ◌∙◌, ℕ, true, List, IsTrue, Err, IsErrOf, ap, inl, inr, refl, sym, subst}
use Rattle.jx_io.specs.Device.{Meaning, after_create, after_finish, after_write}
use Rattle.jx_io.specs.declared.refused.Refused.{Refused}
use Rattle.jx_plan.specs.Plan.{Plan}
use Rattle.jx_rounds.specs.FileBytes.{bytes_of, told_beside}
use Rattle.jx_rounds.specs.Files.{HasWritten, IsFileBegun, IsFileHalted, IsFileMade, IsFileSpoiled, IsUntouched}
use Rattle.jx_rounds.specs.Halts.{halt_of}
use Rattle.jx_rounds.specs.Heads.{IsHead, IsUnmeasured}
use Rattle.jx_rounds.specs.Rounds.{HasWhole, IsFault, IsHalted, IsHaltedByFault, IsHaltedTile}
use Rattle.jx_rounds.specs.Taken.{HasTaken}
use Rattle.jx_rounds.specs.declared.halt.Halt.{Halt}
use Rattle.jx_rounds.specs.declared.halt.Halt.TheVariants as halt
use Rattle.jx_rounds.proofs.FileLemmas.{meaning_after}
use Rattle.jx_rounds.proofs.TakenLemmas.{all_front}
use Rattle.jx_rounds.proofs.WriteLemmas.{halt_fault}

pub untouched : (m : Meaning) → IsUntouched m m
untouched m = record { holds = λ name. refl; making = refl; written = refl }

pub untouched_as : (old new : Meaning) → new ≡ old → IsUntouched old new
untouched_as old new same = subst (IsUntouched old) (sym same) (untouched old)

-- ---- what the writer has taken, as the device tells it
has_written : (created new : Meaning) (bytes rest : List ℕ) → HasTaken (bytes_of created) (bytes_of new) bytes rest → told_beside new ≡ told_beside created → HasWritten created new bytes rest
has_written created new bytes rest taken beside = record { front = taken.front; whole = taken.whole; meaning = meaning_after created new taken.front taken.written beside }

-- a file that was created is being made
pub created_making : (name : List ℕ) (old new : Meaning) → new ≡ after_create name old → IsTrue new.making
created_making name old new is = subst (λ (m : Meaning). IsTrue m.making) (sym is) refl

-- ---- under a name
pub file_made : (p : Plan) (name : List ℕ) (head : List ℕ) (count : ℕ) (old created now new : Meaning) → IsHead p head → created ≡ after_create name old → HasWhole p head count (bytes_of created) (bytes_of now)
    → told_beside now ≡ told_beside created → new ≡ after_finish now → IsFileMade p name count old new
file_made p name head count old created now new of is whole beside finished = record {
  head = head;
  is = of;
  bytes = whole.bytes;
  whole = whole.whole;
  made = (
    old,
    untouched old,
    finished ∙ ap after_finish (meaning_after created now whole.bytes whole.written beside) ∙ ap (λ (m : Meaning). after_finish (after_write whole.bytes m)) is,
  );
  count_is = whole.count_is;
}

pub begun_at : (p : Plan) (name : List ℕ) (head : List ℕ) (old created new : Meaning) → IsHead p head → created ≡ after_create name old → IsHaltedByFault p head (bytes_of created) (bytes_of new)
    → told_beside new ≡ told_beside created → IsFileBegun p name old new
begun_at p name head old created new of is fault beside = inr (record {
  head = head;
  is = of;
  bytes = fault.bytes;
  of = fault.of;
  begun = inr (
    old,
    fault.some.0,
    untouched old,
    subst (λ (m : Meaning). HasWritten m new fault.bytes fault.some.0) is (has_written created new fault.bytes fault.some.0 fault.some.1 beside),
  );
})

stopped_at : (p : Plan) (name : List ℕ) (head : List ℕ) (h : Halt) (tile : ℕ) (old created new : Meaning) → IsHead p head → created ≡ after_create name old → IsHaltedTile p head h tile (bytes_of created) (bytes_of new)
    → told_beside new ≡ told_beside created → IsFileSpoiled p name h tile old new
stopped_at p name head h tile old created new of is halted beside = inl (record {
  head = head;
  head_is = of;
  bytes = halted.bytes;
  is = halted.is;
  stopped = (old, untouched old, meaning_after created new halted.bytes halted.written beside ∙ ap (after_write halted.bytes) is);
})

pub file_halted : (p : Plan) (name : List ℕ) (head : List ℕ) (h : Halt) (old created new : Meaning) → IsHead p head → created ≡ after_create name old → IsHalted p head h (bytes_of created) (bytes_of new)
    → told_beside new ≡ told_beside created → IsFileHalted p name h old new
file_halted p name head (halt.Bad tile number) old created new of is halted beside = stopped_at p name head (halt.Bad tile number) tile old created new of is halted beside
file_halted p name head (halt.TooLong tile) old created new of is halted beside = stopped_at p name head (halt.TooLong tile) tile old created new of is halted beside
file_halted p name head halt.Failed old created new of is fault beside = begun_at p name head old created new of is fault beside
file_halted p name head halt.NoMemory old created new of is fault beside = begun_at p name head old created new of is fault beside

pub fault_begun : (p : Plan) (name : List ℕ) (h : Halt) (old new : Meaning) → IsFault h → IsFileBegun p name old new → IsFileHalted p name h old new
fault_begun p name (halt.Bad tile number) old new never begun = absurd never
fault_begun p name (halt.TooLong tile) old new never begun = absurd never
fault_begun p name halt.Failed old new fault begun = begun
fault_begun p name halt.NoMemory old new fault begun = begun

-- all of it was written, but the file wasn't finished
pub unfinished : (p : Plan) (head : List ℕ) (count : ℕ) (old new : Meaning) → HasWhole p head count (bytes_of old) (bytes_of new) → IsHaltedByFault p head (bytes_of old) (bytes_of new)
unfinished p head count old new whole = record { bytes = whole.bytes; of = inr whole.whole; some = all_front (bytes_of old) (bytes_of new) whole.bytes whole.written }

pub file_unfinished : (p : Plan) (name : List ℕ) (head : List ℕ) (count : ℕ) (h : Halt) (e : Refused) (old created new : Meaning) → IsHead p head → created ≡ after_create name old → h ≡ halt_of e
    → HasWhole p head count (bytes_of created) (bytes_of new) → told_beside new ≡ told_beside created → IsFileHalted p name h old new
file_unfinished p name head count h e old created new of is why whole beside =
    fault_begun p name h old new (halt_fault h e why) (begun_at p name head old created new of is (unfinished p head count created new whole) beside)

pub nothing_begun : (p : Plan) (name : List ℕ) (m : Meaning) → IsFileBegun p name m m
nothing_begun p name m = inl (untouched m)

pub file_uncreated : (p : Plan) (name : List ℕ) (h : Halt) (old new : Meaning) → IsFault h → new ≡ old → IsFileHalted p name h old new
file_uncreated p name h old new fault same = fault_begun p name h old new fault (inl (untouched_as old new same))

-- nothing was created where the lengths weren't found
pub file_unmeasured : (p : Plan) (name : List ℕ) (h : Halt) (m : Meaning) → p.wanted.marks.tlm ≡ true → IsUnmeasured p h → IsFileHalted p name h m m
file_unmeasured p name (halt.Bad tile number) m asked of = inr (record { asked = asked; of = of; same = untouched m })
file_unmeasured p name (halt.TooLong tile) m asked of = inr (record { asked = asked; of = of; same = untouched m })
file_unmeasured p name halt.Failed m asked never = absurd never
file_unmeasured p name halt.NoMemory m asked free = nothing_begun p name m

pub unmeasured_unfailed : (p : Plan) (h : Halt) → IsUnmeasured p h → h ≡ halt.Failed → ⊥
unmeasured_unfailed p h of failed = subst (IsUnmeasured p) failed of

pub unmeasured_cause : {T : Type 0} (p : Plan) (h : Halt) (X : Type 0) → IsUnmeasured p h → IsErrOf {T = T} (Err h) halt.Failed → X
unmeasured_cause p h X of failed = absurd (unmeasured_unfailed p h of (let is : h ≡ halt.Failed = cc in is))
