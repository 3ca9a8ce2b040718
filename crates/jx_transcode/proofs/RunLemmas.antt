-- How a run ends, by its words.
use Rattle.std.proofs.Common.{◌≡◌, ◌⊎◌, Bool, true, false, ℕ, List, [], inl, inr, refl, ap, subst, Option, Err, IsErrOf}
use Rattle.std.proofs.lemmas.Bool.{both_ways, cases_Bool}
use Rattle.jx_io.specs.Device.{Meaning}
use Rattle.jx_layers.specs.declared.StreamFacts.{StreamFacts}
use Rattle.jx_layers.specs.Rule.{Rule}
use Rattle.jx_plan.specs.Planned.{chosen}
use Rattle.jx_cli.specs.BoxesWords.{Boxes, boxes_of, is_boxes}
use Rattle.jx_cli.specs.MakeWords.{Make, is_make, make_of}
use Rattle.jx_cli.specs.SameWords.{Pair, is_same, same_of}
use Rattle.jx_cli.specs.ShowWords.{Show, is_show, show_of}
use Rattle.jx_cli.specs.Words.{Request, Text, is_good, request_of}
use Rattle.jx_cli.specs.CommandNames.{CommandName, is_good_for}
use Rattle.jx_cli.specs.declared.WordsFault.{WordsFault}
use Rattle.jx_jp2.specs.Lines.{HasLines}
use Rattle.jx_transcode.specs.BoxesRun.{BoxesVerdict, EndsListed}
use Rattle.jx_transcode.specs.Commands.{AskNothing, Asks, made_by}
use Rattle.jx_transcode.specs.MakeRun.{EndsMade}
use Rattle.jx_transcode.specs.Outcome.{EndsAs, EndsAtWords, line_of}
use Rattle.jx_transcode.specs.Runs.{Outcome}
use Rattle.jx_transcode.specs.SameRun.{EndsCompared}
use Rattle.jx_transcode.specs.ShowRun.{EndsShown, IsShown, ShowVerdict}
use Rattle.jx_transcode.specs.TranscodeRun.{Ends}
use Rattle.jx_transcode.specs.declared.commands.Command.TheVariants as command
use Rattle.jx_transcode.specs.declared.status.Status.{Status}
use Rattle.jx_transcode.specs.declared.status.Status.TheVariants as status
use Rattle.jx_rounds.specs.declared.tape.TapeEntry.{TapeEntry}
use Rattle.jx_transcode.proofs.LinesLemmas.{lines_short}
use Rattle.jx_transcode.proofs.MakeLemmas.{made_short}
use Rattle.jx_transcode.proofs.SameLemmas.{compared_short}
use Rattle.jx_transcode.proofs.OutcomeLemmas.{ends_said, ends_unread, unread_said}
use Rattle.jx_rounds.proofs.FiledLemmas.{untouched}

-- ---- words that are good for one command alone
pub outcome_transcode : (words : List Text) (request : Request) (rule : List ℕ → StreamFacts → Option Rule) (s : Status) (blocks : ℕ) (entries : List TapeEntry) (old new : Meaning) (before now : Option (List ℕ))
    → Asks words (command.Transcode request) → Ends request rule s blocks entries old new before now → Outcome words rule s blocks entries old new before now
outcome_transcode words request rule s blocks entries old new before now asks ends = record {
  good = λ is. subst (λ (r : Request). Ends r rule s blocks entries old new before now) asks.5 ends;
  made = λ is. absurd (both_ways (is_make words) asks.1 is);
  listed = λ is. absurd (both_ways (is_boxes words) asks.2 is);
  compared = λ is. absurd (both_ways (is_same words) asks.3 is);
  shown = λ is. absurd (both_ways (is_show words) asks.4 is);
  bad = λ not is other more last. absurd (both_ways (is_good words) not asks.0);
}

pub outcome_make : (words : List Text) (seed width height : ℕ) (rule : List ℕ → StreamFacts → Option Rule) (s : Status) (blocks : ℕ) (entries : List TapeEntry) (old new : Meaning) (before now : Option (List ℕ))
    → Asks words (command.Make seed width height) → EndsMade (made_by seed width height) rule s blocks entries old new before now → Outcome words rule s blocks entries old new before now
outcome_make words seed width height rule s blocks entries old new before now asks ends = record {
  good = λ is. absurd (both_ways (is_good words) asks.0 is);
  made = λ is. subst (λ (m : Make). EndsMade m rule s blocks entries old new before now) asks.5 ends;
  listed = λ is. absurd (both_ways (is_boxes words) asks.2 is);
  compared = λ is. absurd (both_ways (is_same words) asks.3 is);
  shown = λ is. absurd (both_ways (is_show words) asks.4 is);
  bad = λ not is other more last. absurd (both_ways (is_make words) is asks.1);
}

pub outcome_boxes : (words : List Text) (asked : Boxes) (rule : List ℕ → StreamFacts → Option Rule) (s : Status) (blocks : ℕ) (entries : List TapeEntry) (old new : Meaning) (before now : Option (List ℕ))
    → Asks words (command.Boxes asked) → EndsListed asked s blocks entries old new before now → Outcome words rule s blocks entries old new before now
outcome_boxes words asked rule s blocks entries old new before now asks ends = record {
  good = λ is. absurd (both_ways (is_good words) asks.0 is);
  made = λ is. absurd (both_ways (is_make words) asks.1 is);
  listed = λ is. subst (λ (a : Boxes). EndsListed a s blocks entries old new before now) asks.5 ends;
  compared = λ is. absurd (both_ways (is_same words) asks.3 is);
  shown = λ is. absurd (both_ways (is_show words) asks.4 is);
  bad = λ not is other more last. absurd (both_ways (is_boxes words) other asks.2);
}

pub outcome_same : (words : List Text) (names : Pair) (rule : List ℕ → StreamFacts → Option Rule) (s : Status) (blocks : ℕ) (entries : List TapeEntry) (old new : Meaning) (before now : Option (List ℕ))
    → Asks words (command.Same names) → EndsCompared names s blocks entries old new before now → Outcome words rule s blocks entries old new before now
outcome_same words names rule s blocks entries old new before now asks ends = record {
  good = λ is. absurd (both_ways (is_good words) asks.0 is);
  made = λ is. absurd (both_ways (is_make words) asks.1 is);
  listed = λ is. absurd (both_ways (is_boxes words) asks.2 is);
  compared = λ is. subst (λ (p : Pair). EndsCompared p s blocks entries old new before now) asks.5 ends;
  shown = λ is. absurd (both_ways (is_show words) asks.4 is);
  bad = λ not is other more last. absurd (both_ways (is_same words) more asks.3);
}

pub outcome_show : (words : List Text) (asked : Show) (rule : List ℕ → StreamFacts → Option Rule) (s : Status) (blocks : ℕ) (entries : List TapeEntry) (old new : Meaning) (before now : Option (List ℕ))
    → Asks words (command.Show asked) → EndsShown asked s blocks entries old new before now → Outcome words rule s blocks entries old new before now
outcome_show words asked rule s blocks entries old new before now asks ends = record {
  good = λ is. absurd (both_ways (is_good words) asks.0 is);
  made = λ is. absurd (both_ways (is_make words) asks.1 is);
  listed = λ is. absurd (both_ways (is_boxes words) asks.2 is);
  compared = λ is. absurd (both_ways (is_same words) asks.3 is);
  shown = λ is. subst (λ (a : Show). EndsShown a s blocks entries old new before now) asks.5 ends;
  bad = λ not is other more last. absurd (both_ways (is_show words) last asks.4);
}

-- a reader's refusal is another's
pub same_fault : {T U : Type 0} (e f : WordsFault) → IsErrOf {T = T} (Err e) f → IsErrOf {T = U} (Err e) f
same_fault e f is = let same : e ≡ f = cc in ap (λ (x : WordsFault). Err x) same

-- no words are good for two commands
abbrev pub AreApart : Type 0
AreApart = (one other : CommandName) (words : List Text) → is_good_for one words ≡ true → is_good_for other words ≡ true → one ≡ other

pub not_good : AreApart → (one other : CommandName) (words : List Text) → (one ≡ other → ⊥) → is_good_for one words ≡ true → is_good_for other words ≡ false
not_good apart one other words differ good = elim (cases_Bool (is_good_for other words)) [
  | inl too ↦ absurd (differ (apart one other words good too))
  | inr bad ↦ bad
]

-- ---- words that weren't read
memory_good : (words : List Text) (rule : List ℕ → StreamFacts → Option Rule) (late : Status) (fault_before fault_now : ℕ) (files : Meaning) (before now : Option (List ℕ))
    → EndsAs status.NoMemory (line_of status.NoMemory 0 0) late before now fault_before fault_now → Ends (request_of words) rule late 0 [] files files before now
memory_good words rule late fault_before fault_now files before now said = ends_said (request_of words) rule status.NoMemory late 0 0 [] fault_before fault_now files files before now
    (ends_unread (request_of words) rule status.NoMemory files files (inr refl) (untouched files)) said

words_other : (s late : Status) (fault_before fault_now : ℕ) (files : Meaning) (before now : Option (List ℕ)) → (s ≡ status.Words) ⊎ (s ≡ status.NoMemory)
    → EndsAs s (line_of s 0 0) late before now fault_before fault_now → EndsAtWords late 0 [] files files before now
words_other s late fault_before fault_now files before now unread said = unread_said s late 0 0 [] fault_before fault_now files files before now (unread, refl) refl refl said

pub outcome_words : (words : List Text) (rule : List ℕ → StreamFacts → Option Rule) (late : Status) (fault_before fault_now : ℕ) (files : Meaning) (before now : Option (List ℕ))
    → AskNothing words → EndsAs status.Words (line_of status.Words 0 0) late before now fault_before fault_now → Outcome words rule late 0 [] files files before now
outcome_words words rule late fault_before fault_now files before now none said = record {
  good = λ is. absurd (both_ways (is_good words) none.0 is);
  made = λ is. absurd (both_ways (is_make words) none.1 is);
  listed = λ is. absurd (both_ways (is_boxes words) none.2 is);
  compared = λ is. absurd (both_ways (is_same words) none.3 is);
  shown = λ is. absurd (both_ways (is_show words) none.4 is);
  bad = λ not is other more last. words_other status.Words late fault_before fault_now files before now (inl refl) said;
}

pub outcome_memory : (words : List Text) (rule : List ℕ → StreamFacts → Option Rule) (late : Status) (fault_before fault_now : ℕ) (files : Meaning) (before now : Option (List ℕ))
    → EndsAs status.NoMemory (line_of status.NoMemory 0 0) late before now fault_before fault_now → Outcome words rule late 0 [] files files before now
outcome_memory words rule late fault_before fault_now files before now said = record {
  good = λ is. memory_good words rule late fault_before fault_now files before now said;
  made = λ is. made_short (make_of words) rule late fault_before fault_now files before now said;
  listed = λ is. lines_short (BoxesVerdict (boxes_of words).limit) HasLines (boxes_of words).name late fault_before fault_now files before now said;
  compared = λ is. compared_short (same_of words) late fault_before fault_now files before now said;
  shown = λ is. lines_short (ShowVerdict (show_of words).limit) (IsShown (show_of words).limit (show_of words).json) (show_of words).name late fault_before fault_now files before now said;
  bad = λ not is other more last. words_other status.NoMemory late fault_before fault_now files before now (inr refl) said;
}

-- with the planners that were lent
pub outcome_lent : {B : Type 0} (lent planners : List B) → lent ≡ planners → (serves : B → List ℕ → Bool) (rule : B → List ℕ → StreamFacts → Option Rule) (words : List Text) (s : Status) (blocks : ℕ)
    (entries : List TapeEntry) (old new : Meaning) (before now : Option (List ℕ))
    → Outcome words (λ text facts. chosen (λ (b : B). serves b text) (λ (b : B). rule b text facts) lent) s blocks entries old new before now
    → Outcome words (λ text facts. chosen (λ (b : B). serves b text) (λ (b : B). rule b text facts) planners) s blocks entries old new before now
outcome_lent {B} lent planners same serves rule words s blocks entries old new before now outcome =
    subst (λ (ps : List B). Outcome words (λ text facts. chosen (λ (b : B). serves b text) (λ (b : B). rule b text facts) ps) s blocks entries old new before now) same outcome
