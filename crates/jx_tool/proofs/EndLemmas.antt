-- A run that ends before it begins, for want of memory; one that has ended; help.
use Rattle.std.proofs.Common.{arith, inr, ◌≡◌, ◌∙◌, ap, subst, ℕ, List, [], Option, inl, refl, true}
use Rattle.jx_io.specs.Device.{Meaning}
use Rattle.jx_layers.specs.declared.StreamFacts.{StreamFacts}
use Rattle.jx_layers.specs.Rule.{Rule}
use Rattle.jx_transcode.specs.declared.status.Status.{Status}
use Rattle.jx_transcode.specs.declared.status.Status.TheVariants as status
use Rattle.jx_rounds.specs.declared.tape.TapeEntry.{TapeEntry}
use Rattle.jx_cli.specs.Words.{Text}
use Rattle.jx_messages.specs.Help.{asks_help}
use Rattle.jx_messages.specs.Text.{EndsLine}
use Rattle.jx_transcode.specs.Outcome.{number_of}
use Rattle.jx_transcode.specs.Runs.{Outcome}
use Rattle.jx_transcode.proofs.RunLemmas.{outcome_memory}
use Rattle.jx_tool.specs.Ended.{AreCounted, IsEnded, IsHelped, IsSaid, TellsUnsaid}

unbegun : (words : List Text) (rule : List ℕ → StreamFacts → Option Rule) (files : Meaning) (said : Option (List ℕ)) → Outcome words rule status.NoMemory 0 [] files files said said
unbegun words rule files said = outcome_memory words rule status.NoMemory 0 0 files said said (inl (refl, inl refl, refl))

-- no count rose, and there was no memory
counted_unbegun : (words : List Text) (said : Option (List ℕ)) (read wrote say : ℕ) → AreCounted words status.NoMemory said said read read wrote wrote say say
counted_unbegun words said read wrote say =
    record { read = λ e. absurd (cc); write = λ e. absurd (cc); read_rose = λ less. absurd (omega (arith, less)); write_rose = λ less. absurd (omega (arith, less)); unsaid = λ less. absurd (omega (arith, less)); complete = λ a b c. inr refl; idle = λ a b d e. refl; unwritten = λ e. refl }

pub ended_unbegun : (words : List Text) (rule : List ℕ → StreamFacts → Option Rule) (s : Status) (number : ℕ) (files : Meaning) (said : Option (List ℕ)) (read wrote say : ℕ)
    → s ≡ status.NoMemory → number ≡ number_of s → IsEnded words rule number files files said said read read wrote wrote say say
ended_unbegun words rule s number files said read wrote say short e =
    record { status = status.NoMemory; blocks = 0; tape = []; outcome = unbegun words rule files said; counted = counted_unbegun words said read wrote say; number_is = e ∙ ap number_of short }

-- a run over these words that has ended
pub ended_by : (own words : List Text) (rule : List ℕ → StreamFacts → Option Rule) (s : Status) (blocks : ℕ) (tape : List TapeEntry) (number : ℕ) (old new : Meaning) (before now : Option (List ℕ)) (read read_now wrote wrote_now say say_now : ℕ) → own ≡ words
    → Outcome own rule s blocks tape old new before now → AreCounted own s before now read read_now wrote wrote_now say say_now → number ≡ number_of s
    → IsEnded words rule number old new before now read read_now wrote wrote_now say say_now
ended_by own words rule s blocks tape number old new before now read read_now wrote wrote_now say say_now same outcome counted is =
    record {
      status = s;
      blocks = blocks;
      tape = tape;
      outcome = subst (λ (ws : List Text). Outcome ws rule s blocks tape old new before now) same outcome;
      counted = subst (λ (ws : List Text). AreCounted ws s before now read read_now wrote wrote_now say say_now) same counted;
      number_is = is;
    }

-- help that words ask for, of which a text was said or couldn't be
pub helped_by : (own words : List Text) (text : Text) (s : Status) (number : ℕ) (files : Meaning) (before now : Option (List ℕ)) (read wrote say say_now : ℕ) → own ≡ words → asks_help own ≡ true → EndsLine text
    → IsSaid s text before now → TellsUnsaid s say say_now → number ≡ number_of s → IsHelped words number files files before now read read wrote wrote say say_now
helped_by own words text s number files before now read wrote say say_now same asked lines said counted is =
    record {
      asked = subst (λ (ws : List Text). asks_help ws ≡ true) same asked;
      untouched = refl;
      text = text;
      lines = lines;
      status = s;
      said = said;
      still = (refl, refl);
      counted = counted;
      number_is = is;
    }
