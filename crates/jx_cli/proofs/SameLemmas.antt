-- Words of `same`, and what they ask for.
use Rattle.std.proofs.Common.{◌≡◌, ◌≤◌, ◌∙◌, ap, sym, refl, arith, ℕ, true, false, Bool, List, [], ◌∷◌, ◌++◌, Option, Some, codes, drop}
use Rattle.std.specs.Fmt.{decimal}
use Rattle.clap.specs.Words.{App, fault_of, is_simple_and_free}
use Rattle.clap.proofs.OnLiterals.{clap_on_literals}
use Rattle.jx_cli.specs.Command.{with_option, with_place}
use Rattle.jx_cli.specs.MakeFound.{texts_of, under}
use Rattle.jx_cli.specs.SameWords.{AsksSame, MayBeCompared, Pair, are_numbers, is_asked, is_same, is_taken, pair_by, same, same_of}
use Rattle.jx_cli.specs.Words.{Text, said_of}
use Rattle.jx_options.specs.declared.names.OptionName.TheVariants as option
use Rattle.jx_cli.proofs.BoxesLemmas.{no_fault}
use Rattle.jx_cli.proofs.CommandLemmas.{asked_by, none_moved, some_moved, texts_moved, unasked_by}
use Rattle.jx_cli.proofs.MadeLemmas.{limit_back}
use Rattle.jx_cli.proofs.ValueLemmas.{threads_back, threads_word}
use Rattle.jx_cli.proofs.WantedLemmas.{limit_within, threads_within}

pub same_free : is_simple_and_free same ≡ true
unfolding clap_on_literals same with_option with_place
same_free = refl

-- ---- what clap says of the words, by what the command is
pub asked : (a : App) (words : List Text) (found : Text → Option Text) (b : Bool) → a ≡ same → fault_of a words ≡ [] → found ≡ texts_of a words → are_numbers found ≡ b → is_asked words ≡ b
asked a words found b is none same_texts said =
    asked_by (fault_of same words) (are_numbers (texts_of same words)) b (none_moved a same words is none)
    (sym (ap are_numbers (same_texts ∙ texts_moved a same words is)) ∙ said)

pub unasked : (a : App) (words : List Text) → a ≡ same → (fault_of a words ≡ [] → ⊥) → is_asked words ≡ false
unasked a words is some = unasked_by (fault_of same words) (are_numbers (texts_of same words)) (some_moved a same words is some)

pub paired : (a : App) (words : List Text) (found : Text → Option Text) (names : Pair) → a ≡ same → found ≡ texts_of a words → names ≡ pair_by found → names ≡ pair_by (texts_of same words)
paired a words found names is same_texts by = by ∙ ap pair_by (same_texts ∙ texts_moved a same words is)

-- ---- how many threads and bytes they ask for
pub pair_may_be : (found : Text → Option Text) → MayBeCompared (pair_by found)
unfolding pair_by
pair_may_be found =
    record { few_threads = threads_within (said_of found option.CompareThreads); limit = limit_within (said_of found option.LimitBytes) }

pub words_may_be : (words : List Text) → MayBeCompared (same_of words)
unfolding same_of
words_may_be words = pair_may_be (texts_of same (drop 1 words))

-- ---- words with two names
abbrev words_for : Text → Text → Text → Text → List Text
words_for first second threads limit = codes "same" ∷ (codes "--threads=" ++ threads) ∷ (codes "--limit-bytes=" ++ limit) ∷ codes "--" ∷ first ∷ second ∷ []

words_taken : (first second threads limit : Text) → fault_of same (words_for first second threads limit) ≡ []
unfolding clap_on_literals same with_option with_place
words_taken first second threads limit = refl

first_found : (first second threads limit : Text) → under (texts_of same (words_for first second threads limit)) (codes "a") ≡ first
unfolding clap_on_literals same with_option with_place
first_found first second threads limit = refl

second_found : (first second threads limit : Text) → under (texts_of same (words_for first second threads limit)) (codes "b") ≡ second
unfolding clap_on_literals same with_option with_place
second_found first second threads limit = refl

threads_found : (first second threads limit : Text) → said_of (texts_of same (words_for first second threads limit)) option.CompareThreads ≡ threads
unfolding clap_on_literals same with_option with_place
threads_found first second threads limit = refl

limit_found : (first second threads limit : Text) → said_of (texts_of same (words_for first second threads limit)) option.LimitBytes ≡ limit
unfolding clap_on_literals same with_option with_place
limit_found first second threads limit = refl

abbrev words_of : Pair → List Text
words_of p = words_for p.first p.second (threads_word p.threads) (decimal p.limit)

words_good : (p : Pair) → MayBeCompared p → is_same ([] ∷ words_of p) ≡ true
unfolding is_same
words_good p may =
    let none : is_taken (words_of p) ≡ true = no_fault (fault_of same (words_of p)) (words_taken p.first p.second (threads_word p.threads) (decimal p.limit)) in
    rw (
      none,
      threads_found p.first p.second (threads_word p.threads) (decimal p.limit),
      threads_back p.threads may.few_threads,
      limit_found p.first p.second (threads_word p.threads) (decimal p.limit),
      limit_back p.limit may.limit,
    ) refl

words_named : (p : Pair) → MayBeCompared p → same_of ([] ∷ words_of p) ≡ p
unfolding same_of pair_by
words_named p may =
    rw (
      first_found p.first p.second (threads_word p.threads) (decimal p.limit),
      second_found p.first p.second (threads_word p.threads) (decimal p.limit),
      threads_found p.first p.second (threads_word p.threads) (decimal p.limit),
      threads_back p.threads may.few_threads,
      limit_found p.first p.second (threads_word p.threads) (decimal p.limit),
      limit_back p.limit may.limit,
    ) refl

pub has_same_words : (p : Pair) → MayBeCompared p → AsksSame p
has_same_words p may = record { words = [] ∷ words_of p; good = words_good p may; named = words_named p may }
