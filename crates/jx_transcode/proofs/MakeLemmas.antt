-- Runs of `make`: what an answer over files in memory says of the generated codestream, and of the line.
use Rattle.std.proofs.Common.{◌≡◌, ◌∙◌, ℕ, List, [], length, inl, inr, refl, sym, subst, ap, Option, arith}
use Rattle.std.specs.List.{sum}
use Rattle.jx_io.specs.Causes.{Rose}
use Rattle.jx_io.specs.Device.{Meaning}
use Rattle.jx_io.specs.Stored.{empty}
use Rattle.jx_layers.specs.declared.StreamFacts.{StreamFacts}
use Rattle.jx_layers.specs.Rule.{Rule}
use Rattle.jx_options.specs.Wanted.{MayBeWanted, Wanted}
use Rattle.jx_cli.specs.MakeWords.{Make}
use Rattle.jx_generate.specs.Made.{file_made, file_with}
use Rattle.jx_jp2.specs.Codestream.{IsJp2}
use Rattle.jx_options.specs.Work.{MayBeWork, Work}
use Rattle.jx_transcode.specs.Aims.{Aim}
use Rattle.jx_transcode.specs.Filed.{IsAnswered}
use Rattle.jx_transcode.specs.MakeRun.{AreTold, ComesOut, EndsMade, IsReadyToSay, TellsMade, aim_made, input_of, make_line, wanted_made, work_made}
use Rattle.jx_rounds.specs.Files.{IsMade}
use Rattle.jx_transcode.specs.Outcome.{EndsAs, IsChosen, IsCutShort, IsLimited, Leaves, Says, line_of}
use Rattle.jx_transcode.specs.declared.status.Status.{Status}
use Rattle.jx_transcode.specs.declared.status.Status.TheVariants as status
use Rattle.jx_rounds.specs.declared.tape.TapeEntry.{TapeEntry}
use Rattle.jx_transcode.proofs.DoneLemmas.{IsOther, undone, unfailed}
use Rattle.jx_transcode.proofs.SaidLemmas.{read_said}
use Rattle.jx_transcode.proofs.TapeLemmas.{taped_late}
use Rattle.jx_transcode.proofs.RefusedLemmas.{IsTold, told_unread, told_unwritten}

abbrev pub Rules : Type 0
Rules = List ℕ → StreamFacts → Option Rule

-- ---- what is made in memory
cut_told : (name : List ℕ) (aim : Aim) (input : List ℕ) (blocks : ℕ) (old new : Meaning) → IsCutShort name aim input blocks old new → AreTold aim.reduce input blocks
cut_told name aim input blocks old new (inl refused) = inl refused.0
cut_told name aim input blocks old new (inr (inl over)) = inr (inl over.count)
cut_told name aim input blocks old new (inr (inr (inl all))) = inr (inr all.count)
cut_told name aim input blocks old new (inr (inr (inr begun))) = inr (inl begun.count)

pub limit_told : (d : ℕ) (input : List ℕ) (number blocks : ℕ) → IsLimited d input number blocks → AreTold d input blocks
limit_told d input number blocks (inl seven) = inr (inl seven.1)
limit_told d input number blocks (inr few) = inl few.1

pub chosen_told : (d : ℕ) (input : List ℕ) (number blocks : ℕ) → IsChosen d input number blocks → AreTold d input blocks
chosen_told d input number blocks (inl few) = inr (inl few.1)
chosen_told d input number blocks (inr all) = inr (inr all.1)

-- what is told of an input of which nothing is made
told_of : (name : List ℕ) (aim : Aim) (input : List ℕ) (s : Status) (blocks bytes : ℕ) (old new : Meaning) → IsTold s → IsOther s → Leaves name aim input s blocks bytes old new → TellsMade aim input s blocks []
told_of name aim input status.Done blocks bytes old new told other leaves = absurd other
told_of name aim input status.Words blocks bytes old new told other leaves = absurd ((told_unread status.Words told).1 refl)
told_of name aim input (status.Unlike how) blocks bytes old new told other leaves = absurd leaves
told_of name aim input (status.Rule number place) blocks bytes old new told other leaves = leaves.0
told_of name aim input (status.Limit number found) blocks bytes old new told other leaves = leaves.0
told_of name aim input (status.Choice number place) blocks bytes old new told other (inl seven) = inl ((λ e. omega (arith, seven.0, e), λ e. omega (arith, seven.0, e)), seven.1.count)
told_of name aim input (status.Choice number place) blocks bytes old new told other (inr few) = few.1
told_of name aim input (status.Block number) blocks bytes old new told other leaves = leaves.count
told_of name aim input status.ReadFault blocks bytes old new told other leaves = absurd ((told_unread status.ReadFault told).0 refl)
told_of name aim input status.WriteFault blocks bytes old new told other leaves = absurd (told_unwritten status.WriteFault told refl)
told_of name aim input status.NoMemory blocks bytes old new told other leaves = cut_told name aim input blocks old new leaves

pub comes_unmade : (name : List ℕ) (work : Work) (aim : Aim) (input : List ℕ) (s : Status) (blocks bytes : ℕ) (entries : List TapeEntry) (old new : Meaning) → IsTold s → IsOther s → IsAnswered name work aim input s blocks bytes entries old new
    → ComesOut work aim input s blocks [] entries
comes_unmade name work aim input s blocks bytes entries old new told other is = record {
  verdict = is.verdict;
  tells = told_of name aim input s blocks bytes old new told other is.leaves;
  tape = is.tape;
  whole = is.whole;
  taped = is.taped;
}

pub told_late : (aim : Aim) (inner : List ℕ) (s : Status) (blocks : ℕ) (out : List ℕ) → TellsMade aim inner s blocks out → AreTold aim.reduce inner blocks
told_late aim inner status.Done blocks out is = inr (inl is.count)
told_late aim inner status.Words blocks out is = absurd is
told_late aim inner (status.Unlike how) blocks out is = absurd is
told_late aim inner (status.Rule number place) blocks out is = inl is
told_late aim inner (status.Limit number found) blocks out is = limit_told aim.reduce inner number blocks is
told_late aim inner (status.Choice number place) blocks out is = chosen_told aim.reduce inner number blocks is
told_late aim inner (status.Block number) blocks out is = inr (inl is)
told_late aim inner status.ReadFault blocks out is = absurd is
told_late aim inner status.WriteFault blocks out is = is
told_late aim inner status.NoMemory blocks out is = is

-- there was no memory
refused_ready : (m : Make) (rule : Rules) (before after total : ℕ) → IsReadyToSay m rule status.NoMemory 0 before after total []
refused_ready m rule before after total = record {
  out = [];
  comes = record { verdict = λ no. absurd no; tells = inl refl; tape = inl refl; whole = λ done. absurd (undone status.NoMemory tt done); taped = inl refl };
  told = inl refl;
  unfailed = unfailed;
  numbers = λ done. absurd (undone status.NoMemory tt done);
}

-- ---- the line
same_line : (s : Status) (blocks a b c d e f : ℕ) → (s ≡ status.Done → (a ≡ d) × (b ≡ e) × (c ≡ f)) → make_line s blocks a b c ≡ make_line s blocks d e f
same_line status.Done blocks a b c d e f same = let h = same refl in rw (h.0, h.1, h.2) refl
same_line status.Words blocks a b c d e f same = refl
same_line (status.Unlike how) blocks a b c d e f same = refl
same_line (status.Rule number place) blocks a b c d e f same = refl
same_line (status.Limit number found) blocks a b c d e f same = refl
same_line (status.Choice number place) blocks a b c d e f same = refl
same_line (status.Block number) blocks a b c d e f same = refl
same_line status.ReadFault blocks a b c d e f same = refl
same_line status.WriteFault blocks a b c d e f same = refl
same_line status.NoMemory blocks a b c d e f same = refl

pub made_said : (m : Make) (rule : Rules) (s late : Status) (blocks before after total : ℕ) (entries : List TapeEntry) (fault_before fault_now : ℕ) (files : Meaning) (old new : Option (List ℕ))
    → IsReadyToSay m rule s blocks before after total entries → EndsAs s (make_line s blocks before after total) late old new fault_before fault_now
    → EndsMade m rule late blocks entries files files old new
made_said m rule s late blocks before after total entries fault_before fault_now files old new ready (inl said) = rw said.0 (record {
  files = refl;
  out = ready.out;
  comes = ready.comes;
  said = subst (λ (line : List ℕ). Says s line old new) (same_line s blocks before after total (length (input_of m)) (length ready.out) (sum ready.out) ready.numbers) said.1;
})
made_said m rule s late blocks before after total entries fault_before fault_now files old new ready (inr (inl fault)) = rw fault.0 (record {
  files = refl;
  out = ready.out;
  comes = record {
    verdict = λ no. absurd no;
    tells = ready.told;
    tape = ready.comes.tape;
    whole = λ done. absurd (undone status.WriteFault tt done);
    taped = taped_late 0 (input_of m) s (length entries) ready.comes.taped;
  };
  said = fault.1;
})
made_said m rule s late blocks before after total entries fault_before fault_now files old new ready (inr (inr short)) = rw short.0 (record {
  files = refl;
  out = ready.out;
  comes = record {
    verdict = λ no. absurd no;
    tells = ready.told;
    tape = ready.comes.tape;
    whole = λ done. absurd (undone status.NoMemory tt done);
    taped = taped_late 0 (input_of m) s (length entries) ready.comes.taped;
  };
  said = inl short.1;
})

-- there was no memory to generate anything
pub made_short : (m : Make) (rule : Rules) (late : Status) (fault_before fault_now : ℕ) (files : Meaning) (before now : Option (List ℕ))
    → EndsAs status.NoMemory (line_of status.NoMemory 0 0) late before now fault_before fault_now → EndsMade m rule late 0 [] files files before now
made_short m rule late fault_before fault_now files before now said =
    made_said m rule status.NoMemory late 0 0 0 0 [] fault_before fault_now files before now (refused_ready m rule 0 0 0) said

-- a fault of the sink alone
pub made_failed : (m : Make) (rule : Rules) (s late : Status) (blocks before after total : ℕ) (entries : List TapeEntry) (line : List ℕ) (fault_before fault_now : ℕ) (old new : Option (List ℕ))
    → IsReadyToSay m rule s blocks before after total entries → EndsAs s line late old new fault_before fault_now → late ≡ status.WriteFault → Rose fault_before fault_now
made_failed m rule s late blocks before after total entries line fault_before fault_now old new ready (inl said) failed = absurd (ready.unfailed (sym said.0 ∙ failed))
made_failed m rule s late blocks before after total entries line fault_before fault_now old new ready (inr (inl fault)) failed = fault.2
made_failed m rule s late blocks before after total entries line fault_before fault_now old new ready (inr (inr short)) failed = absurd (unfailed (sym short.0 ∙ failed))

-- no file is read
made_unread : (m : Make) (rule : Rules) (s : Status) (blocks : ℕ) (out : List ℕ) (entries : List TapeEntry) → ComesOut work_made (aim_made rule) (input_of m) s blocks out entries → s ≡ status.ReadFault → ⊥
made_unread m rule s blocks out entries comes read = subst (λ (x : Status). TellsMade (aim_made rule) (input_of m) x blocks out) read comes.tells

pub made_read : (m : Make) (rule : Rules) (s late : Status) (blocks before after total : ℕ) (entries : List TapeEntry) (line : List ℕ) (fault_before fault_now : ℕ) (old new : Option (List ℕ))
    → IsReadyToSay m rule s blocks before after total entries → EndsAs s line late old new fault_before fault_now → late ≡ status.ReadFault → ⊥
made_read m rule s late blocks before after total entries line fault_before fault_now old new ready said read =
    read_said s late line old new fault_before fault_now (made_unread m rule s blocks ready.out entries ready.comes) said read

-- ---- what is asked may be asked
pub wanted_may : (w : Wanted) → w ≡ wanted_made → MayBeWanted w
wanted_may w same = rw same (record { order = omega arith; changes = inl refl; bytes = tt; style = record { few = omega arith; free = refl } })

pub work_may : (w : Work) → w ≡ work_made → MayBeWork w
work_may w same =
    rw same (record { few_threads = omega arith; some_window = omega arith; few_window = omega arith; some_most = omega arith; few_most = omega arith })

-- what came out in memory
pub ready_of : (m : Make) (rule : Rules) (s : Status) (blocks before after total : ℕ) (out : List ℕ) (entries : List TapeEntry) → ComesOut work_made (aim_made rule) (input_of m) s blocks out entries → (s ≡ status.WriteFault → ⊥)
    → (s ≡ status.Done → (before ≡ length (input_of m)) × (after ≡ length out) × (total ≡ sum out)) → IsReadyToSay m rule s blocks before after total entries
ready_of m rule s blocks before after total out entries comes write numbers = record {
  out = out;
  comes = comes;
  told = told_late (aim_made rule) (input_of m) s blocks out comes.tells;
  unfailed = write;
  numbers = numbers;
}

-- ---- a generated codestream begins with SOC, and is no JP2 file
pub made_bare : (m : Make) → IsJp2 (input_of m) → ⊥
unfolding file_made file_with
made_bare m is = cc
