-- Runs on JP2 files: after what left the files as they were, and with their line not said.
use Rattle.std.proofs.Common.{◌≡◌, ◌⊎◌, ℕ, List, length, inl, inr}
use Rattle.jx_io.specs.Device.{Meaning}
use Rattle.jx_cli.specs.Words.{Text}
use Rattle.jx_jp2.specs.declared.Boxed.{Boxed}
use Rattle.jx_jp2.specs.Codestream.{content}
use Rattle.jx_options.specs.Work.{Work}
use Rattle.jx_options.specs.declared.FormChoice.{FormChoice}
use Rattle.jx_transcode.specs.Aims.{Aim}
use Rattle.jx_transcode.specs.Jp2Run.{EndsAround, EndsBefore, EndsJp2, LeavesAround, LeavesFile, file_in}
use Rattle.jx_rounds.specs.Files.{IsBegun, IsUntouched}
use Rattle.jx_transcode.specs.declared.status.Status.{Status}
use Rattle.jx_transcode.specs.declared.status.Status.TheVariants as status
use Rattle.jx_rounds.specs.declared.tape.TapeEntry.{TapeEntry}
use Rattle.jx_transcode.proofs.DoneLemmas.{undone}
use Rattle.jx_transcode.proofs.LeftLemmas.{begun_after, made_after, untouched_twice}
use Rattle.jx_transcode.proofs.MakeLemmas.{told_late}
use Rattle.jx_transcode.proofs.TapeLemmas.{taped_late}

-- ---- after what left the files as they were
file_after : (name : Text) (file : List ℕ) (s : Status) (bytes : ℕ) (a b c : Meaning) → IsUntouched a b → LeavesFile name file s bytes b c → LeavesFile name file s bytes a c
file_after name file status.Done bytes a b c first is = (made_after name file a b c first is.0, is.1)
file_after name file status.Words bytes a b c first is = untouched_twice a b c first is
file_after name file (status.Unlike how) bytes a b c first is = untouched_twice a b c first is
file_after name file (status.Rule number place) bytes a b c first is = untouched_twice a b c first is
file_after name file (status.Limit number found) bytes a b c first is = untouched_twice a b c first is
file_after name file (status.Choice number place) bytes a b c first is = untouched_twice a b c first is
file_after name file (status.Block number) bytes a b c first is = untouched_twice a b c first is
file_after name file status.ReadFault bytes a b c first is = untouched_twice a b c first is
file_after name file status.WriteFault bytes a b c first is = begun_after name file a b c first is
file_after name file status.NoMemory bytes a b c first is = begun_after name file a b c first is

around_after : (name : Text) (kind : FormChoice) (aim : Aim) (input : List ℕ) (boxed : Boxed) (out : List ℕ) (s : Status) (blocks bytes : ℕ) (a b c : Meaning) → IsUntouched a b
    → LeavesAround name kind aim input boxed out s blocks bytes b c → LeavesAround name kind aim input boxed out s blocks bytes a c
around_after name kind aim input boxed out s blocks bytes a b c first (inl made) = inl (made.0, made.1, file_after name (file_in kind input boxed out) s bytes a b c first made.2)
around_after name kind aim input boxed out s blocks bytes a b c first (inr same) = inr (same.0, untouched_twice a b c first same.1)

pub jp2_after : (name : Text) (work : Work) (kind : FormChoice) (aim : Aim) (input : List ℕ) (s : Status) (blocks bytes : ℕ) (tape : List TapeEntry) (a b c : Meaning) → IsUntouched a b
    → EndsJp2 name work kind aim input s blocks bytes tape b c → EndsJp2 name work kind aim input s blocks bytes tape a c
jp2_after name work kind aim input s blocks bytes tape a b c first (inl before) =
    inl (record { verdict = before.verdict; none = before.none; tape = before.tape; same = untouched_twice a b c first before.same })
jp2_after name work kind aim input s blocks bytes tape a b c first (inr around) = inr (
  around.0,
  record {
    within = around.1.within;
    found = around.1.found;
    verdict = around.1.verdict;
    out = around.1.out;
    tells = around.1.tells;
    leaves = around_after name kind aim input around.0 around.1.out s blocks bytes a b c first around.1.leaves;
    tape = around.1.tape;
    whole = around.1.whole;
    taped = around.1.taped;
  },
)

-- ---- where the line isn't said
file_late : (name : Text) (file : List ℕ) (s : Status) (bytes : ℕ) (old new : Meaning) → LeavesFile name file s bytes old new → IsBegun name file old new
file_late name file status.Done bytes old new is = inr (inr is.0)
file_late name file status.Words bytes old new is = inl is
file_late name file (status.Unlike how) bytes old new is = inl is
file_late name file (status.Rule number place) bytes old new is = inl is
file_late name file (status.Limit number found) bytes old new is = inl is
file_late name file (status.Choice number place) bytes old new is = inl is
file_late name file (status.Block number) bytes old new is = inl is
file_late name file status.ReadFault bytes old new is = inl is
file_late name file status.WriteFault bytes old new is = is
file_late name file status.NoMemory bytes old new is = is

around_late : (late : Status) → (late ≡ status.WriteFault) ⊎ (late ≡ status.NoMemory) → (name : Text) (work : Work) (kind : FormChoice) (aim : Aim) (input : List ℕ) (boxed : Boxed) (s : Status) (blocks bytes : ℕ) (tape : List TapeEntry) (old new : Meaning)
    → EndsAround name work kind aim input boxed s blocks bytes tape old new → EndsAround name work kind aim input boxed late blocks bytes tape old new
around_late late (inl e) name work kind aim input boxed s blocks bytes tape old new is = rw e (record {
  within = is.within;
  found = is.found;
  verdict = λ no. absurd no;
  out = is.out;
  tells = told_late aim (content input boxed) s blocks is.out is.tells;
  leaves = elim is.leaves [
    | inl made ↦ inl (made.0, made.1, file_late name (file_in kind input boxed is.out) s bytes old new made.2)
    | inr same ↦ inr (undone status.WriteFault tt, same.1)
  ];
  tape = is.tape;
  whole = λ done. absurd (undone status.WriteFault tt done);
  taped = taped_late aim.reduce (content input boxed) s (length tape) is.taped;
})
around_late late (inr e) name work kind aim input boxed s blocks bytes tape old new is = rw e (record {
  within = is.within;
  found = is.found;
  verdict = λ no. absurd no;
  out = is.out;
  tells = told_late aim (content input boxed) s blocks is.out is.tells;
  leaves = elim is.leaves [
    | inl made ↦ inl (made.0, made.1, file_late name (file_in kind input boxed is.out) s bytes old new made.2)
    | inr same ↦ inr (undone status.NoMemory tt, same.1)
  ];
  tape = is.tape;
  whole = λ done. absurd (undone status.NoMemory tt done);
  taped = taped_late aim.reduce (content input boxed) s (length tape) is.taped;
})

before_late : (late : Status) → (late ≡ status.WriteFault) ⊎ (late ≡ status.NoMemory) → (limit : ℕ) (input : List ℕ) (s : Status) (blocks : ℕ) (tape : List TapeEntry) (old new : Meaning)
    → EndsBefore limit input s blocks tape old new → EndsBefore limit input late blocks tape old new
before_late late (inl e) limit input s blocks tape old new is = rw e (record { verdict = λ no. absurd no; none = is.none; tape = is.tape; same = is.same })
before_late late (inr e) limit input s blocks tape old new is = rw e (record { verdict = λ no. absurd no; none = is.none; tape = is.tape; same = is.same })

pub jp2_late : (late : Status) → (late ≡ status.WriteFault) ⊎ (late ≡ status.NoMemory) → (name : Text) (work : Work) (kind : FormChoice) (aim : Aim) (input : List ℕ) (s : Status) (blocks bytes : ℕ) (tape : List TapeEntry) (old new : Meaning)
    → EndsJp2 name work kind aim input s blocks bytes tape old new → EndsJp2 name work kind aim input late blocks bytes tape old new
jp2_late late fails name work kind aim input s blocks bytes tape old new (inl before) = inl (before_late late fails aim.limit input s blocks tape old new before)
jp2_late late fails name work kind aim input s blocks bytes tape old new (inr around) = inr (around.0, around_late late fails name work kind aim input around.0 s blocks bytes tape old new around.1)
