-- Runs on inputs of which a front was read, and with their line said.
use Rattle.std.proofs.Common.{◌≡◌, ◌⊎◌, ◌<◌, ◌+◌, ℕ, List, [], length, inl, inr, refl, subst, Option, IfSome, arith}
use Rattle.std.proofs.lemmas.Bool.{cases_lt}
use Rattle.jx_io.specs.Device.{Meaning, joined}
use Rattle.jx_io.specs.declared.refused.Refused.{Refused}
use Rattle.jx_layers.specs.declared.StreamFacts.{StreamFacts}
use Rattle.jx_layers.specs.Rule.{Rule}
use Rattle.jx_options.specs.Wanted.{Wanted}
use Rattle.jx_transcode.specs.Aims.{Aim}
use Rattle.jx_transcode.specs.declared.status.Status.{Status}
use Rattle.jx_transcode.specs.declared.status.Status.TheVariants as status
use Rattle.jx_transcode.specs.Filed.{IsAnswered, IsTooLong, IsUnread, unread_as}
use Rattle.jx_cli.specs.Words.{Request, Text}
use Rattle.jx_jp2.specs.Codestream.{IsJp2}
use Rattle.jx_transcode.specs.Jp2Run.{EndsJp2}
use Rattle.jx_options.specs.Work.{Work}
use Rattle.jx_options.specs.declared.FormChoice.{FormChoice}
use Rattle.jx_rounds.specs.declared.tape.TapeEntry.{TapeEntry}
use Rattle.jx_rounds.specs.Files.{IsUntouched}
use Rattle.jx_transcode.specs.Outcome.{IsCutShort, EndsAtWords, EndsAs, line_of}
use Rattle.jx_transcode.specs.TranscodeRun.{Ends, EndsOn, aim_of}
use Rattle.jx_transcode.proofs.DoneLemmas.{undone}
use Rattle.jx_transcode.proofs.Jp2Lemmas.{jp2_after, jp2_late}
use Rattle.jx_transcode.proofs.LeftLemmas.{IsFront, cut_after, leaves_after, long_whole, short_told, told_whole, whole}
use Rattle.jx_transcode.proofs.StatusLemmas.{unread_either}
use Rattle.jx_transcode.proofs.TapeLemmas.{taped_late}

-- how the files are left by a run over good words, before anything is said; `bytes` is the output's length after Done
pub record EndsFiles (request : Request) (rule : List ℕ → StreamFacts → Option Rule) (s : Status) (blocks bytes : ℕ) (entries : List TapeEntry) (old new : Meaning) : Type 0 where
  pub input : List ℕ
  pub files : EndsOn request rule input s blocks bytes entries old new
  -- what stands of a codestream's output where its line isn't said
  pub unsaid : (IsJp2 input → ⊥) → IsCutShort request.to (aim_of request rule) input blocks old new

-- an input that is longer than it may be, of which a front was read
ends_long : (request : Request) (rule : List ℕ → StreamFacts → Option Rule) (input : List ℕ) (a b : Meaning) → IfSome (joined (a.holds request.from)) (λ held. input ≡ held) → request.limit < length input → IsUntouched a b
    → EndsFiles request rule (status.Limit 1 (request.limit + 1)) 0 0 [] a b
ends_long request rule input a b told long same = record {
  input = input;
  files = record {
    told = told;
    bare = λ not. record {
      verdict = λ v. inl (inl (long, refl, refl));
      leaves = (inr (omega arith, refl), same);
      tape = inl refl;
      whole = λ done. absurd (undone (status.Limit 1 (request.limit + 1)) tt done);
      taped = refl;
    };
    jp2 = λ is. inl (record { verdict = λ v. (long, refl, refl); none = refl; tape = refl; same = same });
  };
  unsaid = λ not. inl (refl, same);
}

-- what an answer to the bytes read says of the input
pub ends_read : (request : Request) (rule : List ℕ → StreamFacts → Option Rule) (read : List ℕ) (s : Status) (blocks bytes : ℕ) (tape : List TapeEntry) (a b c : Meaning)
    → IsFront request.limit (joined (a.holds request.from)) read → IsUntouched a b
    → ((IsJp2 read → ⊥) → IsAnswered request.to request.work (aim_of request rule) read s blocks bytes tape b c) → (IsJp2 read → EndsJp2 request.to request.work request.form (aim_of request rule) read s blocks bytes tape b c)
    → (request.limit < length read → IsTooLong request.limit s blocks bytes tape b c) → EndsFiles request rule s blocks bytes tape a c
ends_read request rule read s blocks bytes tape a b c front first bare jp2 over = let aim : Aim = aim_of request rule in elim (cases_lt request.limit (length read)) [
  | inr short ↦ record {
    input = read;
    files = record {
      told = short_told request.limit (joined (a.holds request.from)) read front short;
      bare = λ not. record {
        verdict = (bare not).verdict;
        leaves = leaves_after request.to aim read s blocks bytes a b c first (bare not).leaves;
        tape = (bare not).tape;
        whole = (bare not).whole;
        taped = (bare not).taped;
      };
      jp2 = λ is. jp2_after request.to request.work request.form aim read s blocks bytes tape a b c first (jp2 is);
    };
    unsaid = λ not. cut_after request.to aim read blocks a b c first (bare not).unsaid;
  }
  | inl long ↦
      let is : IsTooLong request.limit s blocks bytes tape b c = over long in
      rw (is.is, is.blocks_are, is.bytes_are, is.tape, is.same)
      (ends_long request rule (whole (joined (a.holds request.from)) read) a b (told_whole (joined (a.holds request.from)) read) (long_whole request.limit (joined (a.holds request.from)) read front long) first)
]

-- nothing was read to its end, and nothing was made
pub ends_unread : (request : Request) (rule : List ℕ → StreamFacts → Option Rule) (s : Status) (a b : Meaning) → (s ≡ status.ReadFault) ⊎ (s ≡ status.NoMemory) → IsUntouched a b → EndsFiles request rule s 0 0 [] a b
ends_unread request rule s a b (inl e) same = rw e (record {
  input = whole (joined (a.holds request.from)) [];
  files = record {
    told = told_whole (joined (a.holds request.from)) [];
    bare = λ not. record { verdict = λ no. absurd no; leaves = (refl, same); tape = inl refl; whole = λ done. absurd (undone status.ReadFault tt done); taped = refl };
    jp2 = λ is. inl (record { verdict = λ no. absurd no; none = refl; tape = refl; same = same });
  };
  unsaid = λ not. inl (refl, same);
})
ends_unread request rule s a b (inr e) same = rw e (record {
  input = whole (joined (a.holds request.from)) [];
  files = record {
    told = told_whole (joined (a.holds request.from)) [];
    bare = λ not. record { verdict = λ no. absurd no; leaves = inl (refl, same); tape = inl refl; whole = λ done. absurd (undone status.NoMemory tt done); taped = inl refl };
    jp2 = λ is. inl (record { verdict = λ no. absurd no; none = refl; tape = refl; same = same });
  };
  unsaid = λ not. inl (refl, same);
})

-- an input that couldn't be read
pub ends_refused : (request : Request) (rule : List ℕ → StreamFacts → Option Rule) (e : Refused) (s : Status) (blocks bytes : ℕ) (tape : List TapeEntry) (a b : Meaning) → s ≡ unread_as e → (blocks ≡ 0) × (bytes ≡ 0)
    → tape ≡ [] → IsUntouched a b → EndsFiles request rule s blocks bytes tape a b
ends_refused request rule e s blocks bytes tape a b is none empty same = rw (none.0, none.1, empty) (ends_unread request rule s a b (unread_either e s is) same)

-- the parts of a request
same_request : (r : Request) (from to : Text) (w : Wanted) (work : Work) (kind : FormChoice) (d limit : ℕ) → from ≡ r.from → to ≡ r.to → w ≡ r.wanted → work ≡ r.work → kind ≡ r.form → d ≡ r.reduce → limit ≡ r.limit
    → ◌≡◌ {A = Request} (record { from = from; to = to; wanted = w; work = work; form = kind; reduce = d; limit = limit }) r
same_request r from to w work kind d limit e f h g k l m = rw (e, f, h, g, k, l, m) refl

pub ends_as : (r : Request) (rule : List ℕ → StreamFacts → Option Rule) (from to : Text) (w : Wanted) (work : Work) (kind : FormChoice) (d limit : ℕ) (s : Status) (blocks bytes : ℕ) (tape : List TapeEntry) (old new : Meaning) → from ≡ r.from → to ≡ r.to → w ≡ r.wanted
    → work ≡ r.work → kind ≡ r.form → d ≡ r.reduce → limit ≡ r.limit → EndsFiles (record { from = from; to = to; wanted = w; work = work; form = kind; reduce = d; limit = limit }) rule s blocks bytes tape old new → EndsFiles r rule s blocks bytes tape old new
ends_as r rule from to w work kind d limit s blocks bytes tape old new e f h g k l m ends =
    subst (λ (x : Request). EndsFiles x rule s blocks bytes tape old new) (same_request r from to w work kind d limit e f h g k l m) ends

-- a run over good words whose line was said, or wasn't
pub ends_said : (request : Request) (rule : List ℕ → StreamFacts → Option Rule) (s late : Status) (blocks bytes : ℕ) (tape : List TapeEntry) (fault_before fault_now : ℕ) (old new : Meaning) (before now : Option (List ℕ))
    → EndsFiles request rule s blocks bytes tape old new → EndsAs s (line_of s blocks bytes) late before now fault_before fault_now
    → Ends request rule late blocks tape old new before now
ends_said request rule s late blocks bytes tape fault_before fault_now old new before now ends (inl said) =
    rw said.0 (record { input = ends.input; bytes = bytes; files = ends.files; said = said.1 })
ends_said request rule s late blocks bytes tape fault_before fault_now old new before now ends (inr (inl fault)) = rw fault.0 (record {
  input = ends.input;
  bytes = bytes;
  files = record {
    told = ends.files.told;
    bare = λ not. record {
      verdict = λ no. absurd no;
      leaves = ends.unsaid not;
      tape = (ends.files.bare not).tape;
      whole = λ done. absurd (undone status.WriteFault tt done);
      taped = taped_late (aim_of request rule).reduce ends.input s (length tape) (ends.files.bare not).taped;
    };
    jp2 = λ is. jp2_late status.WriteFault (inl refl) request.to request.work request.form (aim_of request rule) ends.input s blocks bytes tape old new (ends.files.jp2 is);
  };
  said = fault.1;
})
ends_said request rule s late blocks bytes tape fault_before fault_now old new before now ends (inr (inr short)) = rw short.0 (record {
  input = ends.input;
  bytes = bytes;
  files = record {
    told = ends.files.told;
    bare = λ not. record {
      verdict = λ no. absurd no;
      leaves = ends.unsaid not;
      tape = (ends.files.bare not).tape;
      whole = λ done. absurd (undone status.NoMemory tt done);
      taped = taped_late (aim_of request rule).reduce ends.input s (length tape) (ends.files.bare not).taped;
    };
    jp2 = λ is. jp2_late status.NoMemory (inr refl) request.to request.work request.form (aim_of request rule) ends.input s blocks bytes tape old new (ends.files.jp2 is);
  };
  said = inl short.1;
})

-- a run over other words whose line was said, or wasn't
words_said : (blocks bytes : ℕ) (late : Status) (fault_before fault_now : ℕ) (files : Meaning) (before now : Option (List ℕ))
    → EndsAs status.Words (line_of status.Words blocks bytes) late before now fault_before fault_now → EndsAtWords late 0 [] files files before now
words_said blocks bytes late fault_before fault_now files before now (inl said) = rw said.0 (record { words = inl refl; files = refl; none = refl; tape = refl; said = said.1 })
words_said blocks bytes late fault_before fault_now files before now (inr (inl fault)) =
    rw fault.0 (record { words = inr (inl refl); files = refl; none = refl; tape = refl; said = fault.1 })
words_said blocks bytes late fault_before fault_now files before now (inr (inr short)) =
    rw short.0 (record { words = inr (inr refl); files = refl; none = refl; tape = refl; said = inl short.1 })

memory_said : (blocks bytes : ℕ) (late : Status) (fault_before fault_now : ℕ) (files : Meaning) (before now : Option (List ℕ))
    → EndsAs status.NoMemory (line_of status.NoMemory blocks bytes) late before now fault_before fault_now → EndsAtWords late 0 [] files files before now
memory_said blocks bytes late fault_before fault_now files before now (inl said) = rw said.0 (record { words = inr (inr refl); files = refl; none = refl; tape = refl; said = said.1 })
memory_said blocks bytes late fault_before fault_now files before now (inr (inl fault)) =
    rw fault.0 (record { words = inr (inl refl); files = refl; none = refl; tape = refl; said = fault.1 })
memory_said blocks bytes late fault_before fault_now files before now (inr (inr short)) =
    rw short.0 (record { words = inr (inr refl); files = refl; none = refl; tape = refl; said = inl short.1 })

unread_is : (s late : Status) (blocks bytes fault_before fault_now : ℕ) (files : Meaning) (before now : Option (List ℕ)) → (s ≡ status.Words) ⊎ (s ≡ status.NoMemory)
    → EndsAs s (line_of s blocks bytes) late before now fault_before fault_now → EndsAtWords late 0 [] files files before now
unread_is s late blocks bytes fault_before fault_now files before now (inl e) said = words_said blocks bytes late fault_before fault_now files before now
    (subst (λ (x : Status). EndsAs x (line_of x blocks bytes) late before now fault_before fault_now) e said)
unread_is s late blocks bytes fault_before fault_now files before now (inr e) said = memory_said blocks bytes late fault_before fault_now files before now
    (subst (λ (x : Status). EndsAs x (line_of x blocks bytes) late before now fault_before fault_now) e said)

-- with just this tape and this meaning of the files
ends_with : (late : Status) (blocks : ℕ) (tape : List TapeEntry) (old new : Meaning) (before now : Option (List ℕ)) → blocks ≡ 0 → tape ≡ [] → new ≡ old
    → EndsAtWords late 0 [] old old before now → EndsAtWords late blocks tape old new before now
ends_with late blocks tape old new before now e f g ends = record { words = ends.words; files = g; none = e; tape = f; said = ends.said }

pub unread_said : (s late : Status) (blocks bytes : ℕ) (tape : List TapeEntry) (fault_before fault_now : ℕ) (old new : Meaning) (before now : Option (List ℕ)) → IsUnread s blocks → tape ≡ [] → new ≡ old
    → EndsAs s (line_of s blocks bytes) late before now fault_before fault_now → EndsAtWords late blocks tape old new before now
unread_said s late blocks bytes tape fault_before fault_now old new before now unread none same said =
    ends_with late blocks tape old new before now unread.1 none same (unread_is s late blocks bytes fault_before fault_now old before now unread.0 said)
