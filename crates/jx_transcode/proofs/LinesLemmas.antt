-- Runs that read one file and say lines of it: what is to be said, then whether it was.
use Rattle.std.proofs.Common.{◌≡◌, ◌⊎◌, ℕ, List, [], Option, inl, inr, refl, IfSome}
use Rattle.jx_io.specs.Device.{Meaning, joined}
use Rattle.jx_io.specs.declared.refused.Refused.{Refused}
use Rattle.jx_cli.specs.Words.{Text}
use Rattle.jx_transcode.specs.Filed.{unread_as}
use Rattle.jx_transcode.specs.LinesRun.{EndsInLines}
use Rattle.jx_rounds.specs.Files.{IsUntouched}
use Rattle.jx_transcode.specs.Outcome.{EndsAs, IsVerdict, line_of}
use Rattle.jx_transcode.specs.declared.status.Status.{Status}
use Rattle.jx_transcode.specs.declared.status.Status.TheVariants as status
use Rattle.jx_transcode.proofs.DoneLemmas.{undone}
use Rattle.jx_rounds.proofs.FiledLemmas.{untouched}
use Rattle.jx_transcode.proofs.LeftLemmas.{told_whole, whole}
use Rattle.jx_transcode.proofs.StatusLemmas.{unread_either}

-- by the statuses that an input may have, and the lines that it has
pub record IsToSay (has_verdict : List ℕ → Status → Type 0) (has_lines : List ℕ → List ℕ → Type 0) (name : Text) (s : Status) (text : List ℕ) (old new : Meaning) : Type 0 where
  pub input : List ℕ
  pub told : IfSome (joined (old.holds name)) (λ bytes. input ≡ bytes)
  pub verdict : IsVerdict s → has_verdict input s
  pub lines : s ≡ status.Done → has_lines input text
  pub line : (s ≡ status.Done → ⊥) → text ≡ line_of s 0 0
  pub files : IsUntouched old new

module _ (has_verdict : List ℕ → Status → Type 0) (has_lines : List ℕ → List ℕ → Type 0) where
  -- nothing was read to its end
  unread_to_say : (name : Text) (s : Status) (old new : Meaning) → (s ≡ status.ReadFault) ⊎ (s ≡ status.NoMemory) → IsUntouched old new → IsToSay has_verdict has_lines name s (line_of s 0 0) old new
  unread_to_say name s old new (inl e) same = rw e (record {
    input = whole (joined (old.holds name)) [];
    told = told_whole (joined (old.holds name)) [];
    verdict = λ no. absurd no;
    lines = λ done. absurd (undone status.ReadFault tt done);
    line = λ other. refl;
    files = same;
  })
  unread_to_say name s old new (inr e) same = rw e (record {
    input = whole (joined (old.holds name)) [];
    told = told_whole (joined (old.holds name)) [];
    verdict = λ no. absurd no;
    lines = λ done. absurd (undone status.NoMemory tt done);
    line = λ other. refl;
    files = same;
  })

  pub refused_to_say : (name : Text) (e : Refused) (s : Status) (old new : Meaning) → s ≡ unread_as e → IsUntouched old new → IsToSay has_verdict has_lines name s (line_of s 0 0) old new
  refused_to_say name e s old new is same = unread_to_say name s old new (unread_either e s is) same

  -- ---- said, or not
  pub lines_said : (name : Text) (s late : Status) (text : List ℕ) (fault_before fault_now : ℕ) (old new : Meaning) (before now : Option (List ℕ)) → IsToSay has_verdict has_lines name s text old new
      → EndsAs s text late before now fault_before fault_now → EndsInLines has_verdict has_lines name late 0 [] old new before now
  lines_said name s late text fault_before fault_now old new before now is (inl said) = rw said.0 (record {
    input = is.input;
    told = is.told;
    verdict = is.verdict;
    text = text;
    lines = is.lines;
    line = is.line;
    said = said.1;
    files = is.files;
    none = refl;
    tape = refl;
  })
  lines_said name s late text fault_before fault_now old new before now is (inr (inl fault)) = rw fault.0 (record {
    input = is.input;
    told = is.told;
    verdict = λ no. absurd no;
    text = line_of status.WriteFault 0 0;
    lines = λ done. absurd (undone status.WriteFault tt done);
    line = λ other. refl;
    said = fault.1;
    files = is.files;
    none = refl;
    tape = refl;
  })
  lines_said name s late text fault_before fault_now old new before now is (inr (inr short)) = rw short.0 (record {
    input = is.input;
    told = is.told;
    verdict = λ no. absurd no;
    text = line_of status.NoMemory 0 0;
    lines = λ done. absurd (undone status.NoMemory tt done);
    line = λ other. refl;
    said = inl short.1;
    files = is.files;
    none = refl;
    tape = refl;
  })

  -- there was no memory to read the words
  pub lines_short : (name : Text) (late : Status) (fault_before fault_now : ℕ) (files : Meaning) (before now : Option (List ℕ))
      → EndsAs status.NoMemory (line_of status.NoMemory 0 0) late before now fault_before fault_now → EndsInLines has_verdict has_lines name late 0 [] files files before now
  lines_short name late fault_before fault_now files before now said =
      lines_said name status.NoMemory late (line_of status.NoMemory 0 0) fault_before fault_now files files before now (unread_to_say name status.NoMemory files files (inr refl) (untouched files)) said
