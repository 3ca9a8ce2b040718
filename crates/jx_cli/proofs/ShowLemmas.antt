-- Words of `show`, and what they ask for.
use Rattle.std.proofs.Common.{◌≡◌, ◌∙◌, ap, refl, sym, Bool, true, false, List, [], ◌∷◌, ◌++◌, Option, codes, drop, eqb, is_some, length}
use Rattle.std.specs.Fmt.{decimal}
use Rattle.clap.specs.Words.{App, fault_of, is_simple_and_free}
use Rattle.clap.proofs.OnLiterals.{clap_on_literals}
use Rattle.jx_cli.specs.Command.{with_flag, with_option, with_place}
use Rattle.jx_cli.specs.MakeFound.{texts_of, under}
use Rattle.jx_cli.specs.ShowWords.{AsksShow, Show, is_asked, is_show, show, show_by, show_of}
use Rattle.jx_cli.specs.Words.{Text, flag_of, limit_in, said_of}
use Rattle.jx_options.specs.declared.names.OptionName.TheVariants as option
use Rattle.jx_options.specs.Work.{MayBeLimit}
use Rattle.jx_cli.proofs.BoxesLemmas.{no_fault}
use Rattle.jx_cli.proofs.CommandLemmas.{asked_by, none_moved, some_moved, texts_moved, unasked_by}
use Rattle.jx_cli.proofs.MadeLemmas.{limit_back}
use Rattle.jx_cli.proofs.WantedLemmas.{limit_within}

pub show_free : is_simple_and_free show ≡ true
unfolding clap_on_literals show with_flag with_option with_place
show_free = refl

-- ---- what clap says of the words, by what the command is
pub asked : (a : App) (words : List Text) (found : Text → Option Text) (b : Bool) → a ≡ show → fault_of a words ≡ [] → found ≡ texts_of a words → is_some (limit_in found) ≡ b → is_asked words ≡ b
asked a words found b is none same said =
    asked_by (fault_of show words) (is_some (limit_in (texts_of show words))) b (none_moved a show words is none)
    (sym (ap (λ (f : Text → Option Text). is_some (limit_in f)) (same ∙ texts_moved a show words is)) ∙ said)

pub unasked : (a : App) (words : List Text) → a ≡ show → (fault_of a words ≡ [] → ⊥) → is_asked words ≡ false
unasked a words is some = unasked_by (fault_of show words) (is_some (limit_in (texts_of show words))) (some_moved a show words is some)

pub shown : (a : App) (words : List Text) (found : Text → Option Text) (made : Show) → a ≡ show → found ≡ texts_of a words → made ≡ show_by found → made ≡ show_by (texts_of show words)
shown a words found made is same by = by ∙ ap show_by (same ∙ texts_moved a show words is)

-- ---- how many bytes they ask for
pub shown_may_be : (found : Text → Option Text) → MayBeLimit (show_by found).limit
unfolding show_by
shown_may_be found = limit_within (said_of found option.LimitBytes)

pub words_may_be : (words : List Text) → MayBeLimit (show_of words).limit
unfolding show_of
words_may_be words = shown_may_be (texts_of show (drop 1 words))

-- ---- words that ask for it
abbrev words_for : Bool → Text → Text → List Text
words_for true name limit = codes "show" ∷ codes "--json" ∷ (codes "--limit-bytes=" ++ limit) ∷ codes "--" ∷ name ∷ []
words_for false name limit = codes "show" ∷ (codes "--limit-bytes=" ++ limit) ∷ codes "--" ∷ name ∷ []

words_taken : (json : Bool) (name limit : Text) → fault_of show (words_for json name limit) ≡ []
unfolding clap_on_literals show with_flag with_option with_place
words_taken true name limit = refl
words_taken false name limit = refl

name_found : (json : Bool) (name limit : Text) → under (texts_of show (words_for json name limit)) (codes "in") ≡ name
unfolding clap_on_literals show with_flag with_option with_place
name_found true name limit = refl
name_found false name limit = refl

json_found : (json : Bool) (name limit : Text) → flag_of (texts_of show (words_for json name limit)) option.Json ≡ json
unfolding clap_on_literals show with_flag with_option with_place
json_found true name limit = refl
json_found false name limit = refl

limit_found : (json : Bool) (name limit : Text) → said_of (texts_of show (words_for json name limit)) option.LimitBytes ≡ limit
unfolding clap_on_literals show with_flag with_option with_place
limit_found true name limit = refl
limit_found false name limit = refl

words_good : (s : Show) → MayBeLimit s.limit → is_show ([] ∷ words_for s.json s.name (decimal s.limit)) ≡ true
unfolding is_show
words_good s may = by s.json
  where
    by : (json : Bool) → is_show ([] ∷ words_for json s.name (decimal s.limit)) ≡ true
    by true =
        let none : eqb (length (fault_of show (words_for true s.name (decimal s.limit)))) 0 ≡ true = no_fault (fault_of show (words_for true s.name (decimal s.limit))) (words_taken true s.name (decimal s.limit)) in
        rw (none, limit_found true s.name (decimal s.limit), limit_back s.limit may) refl
    by false =
        let none : eqb (length (fault_of show (words_for false s.name (decimal s.limit)))) 0 ≡ true = no_fault (fault_of show (words_for false s.name (decimal s.limit))) (words_taken false s.name (decimal s.limit)) in
        rw (none, limit_found false s.name (decimal s.limit), limit_back s.limit may) refl

words_made : (s : Show) → MayBeLimit s.limit → show_of ([] ∷ words_for s.json s.name (decimal s.limit)) ≡ s
unfolding show_of show_by
words_made s may =
    rw (name_found s.json s.name (decimal s.limit), json_found s.json s.name (decimal s.limit), limit_found s.json s.name (decimal s.limit), limit_back s.limit may) refl

pub has_show_words : (s : Show) → MayBeLimit s.limit → AsksShow s
has_show_words s may = record { words = [] ∷ words_for s.json s.name (decimal s.limit); good = words_good s may; made = words_made s may }
