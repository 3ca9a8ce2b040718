-- Words of `boxes`, and what they ask for.
use Rattle.std.proofs.Common.{◌≡◌, ◌∙◌, ap, refl, sym, Bool, true, false, List, [], ◌∷◌, ◌++◌, Option, drop, length, eqb, codes, is_some}
use Rattle.std.specs.Fmt.{decimal}
use Rattle.clap.specs.Words.{App, fault_of, is_simple_and_free}
use Rattle.clap.proofs.OnLiterals.{clap_on_literals}
use Rattle.jx_cli.specs.BoxesWords.{AsksBoxes, Boxes, boxes, boxes_by, boxes_of, is_asked, is_boxes}
use Rattle.jx_cli.specs.Command.{with_option, with_place}
use Rattle.jx_cli.specs.MakeFound.{texts_of, under}
use Rattle.jx_cli.specs.Words.{Text, limit_in, said_of}
use Rattle.jx_options.specs.declared.names.OptionName.TheVariants as option
use Rattle.jx_options.specs.Work.{MayBeLimit}
use Rattle.jx_cli.proofs.CommandLemmas.{asked_by, none_moved, some_moved, texts_moved, unasked_by}
use Rattle.jx_cli.proofs.MadeLemmas.{limit_back}
use Rattle.jx_cli.proofs.WantedLemmas.{limit_within}

pub boxes_free : is_simple_and_free boxes ≡ true
unfolding clap_on_literals boxes with_option with_place
boxes_free = refl

-- ---- what clap says of the words, by what the command is
pub no_fault : {X : Type 0} (faults : List X) → faults ≡ [] → eqb (length faults) 0 ≡ true
no_fault faults none = rw none refl

pub asked : (a : App) (words : List Text) (found : Text → Option Text) (b : Bool) → a ≡ boxes → fault_of a words ≡ [] → found ≡ texts_of a words → is_some (limit_in found) ≡ b → is_asked words ≡ b
asked a words found b is none same said =
    asked_by (fault_of boxes words) (is_some (limit_in (texts_of boxes words))) b (none_moved a boxes words is none)
    (sym (ap (λ (f : Text → Option Text). is_some (limit_in f)) (same ∙ texts_moved a boxes words is)) ∙ said)

pub unasked : (a : App) (words : List Text) → a ≡ boxes → (fault_of a words ≡ [] → ⊥) → is_asked words ≡ false
unasked a words is some = unasked_by (fault_of boxes words) (is_some (limit_in (texts_of boxes words))) (some_moved a boxes words is some)

pub listed : (a : App) (words : List Text) (found : Text → Option Text) (made : Boxes) → a ≡ boxes → found ≡ texts_of a words → made ≡ boxes_by found → made ≡ boxes_by (texts_of boxes words)
listed a words found made is same by = by ∙ ap boxes_by (same ∙ texts_moved a boxes words is)

-- ---- how many bytes they ask for
pub listed_may_be : (found : Text → Option Text) → MayBeLimit (boxes_by found).limit
unfolding boxes_by
listed_may_be found = limit_within (said_of found option.LimitBytes)

pub words_may_be : (words : List Text) → MayBeLimit (boxes_of words).limit
unfolding boxes_of
words_may_be words = listed_may_be (texts_of boxes (drop 1 words))

-- ---- words with a name
abbrev words_for : Text → Text → List Text
words_for name limit = codes "boxes" ∷ (codes "--limit-bytes=" ++ limit) ∷ codes "--" ∷ name ∷ []

words_taken : (name limit : Text) → fault_of boxes (words_for name limit) ≡ []
unfolding clap_on_literals boxes with_option with_place
words_taken name limit = refl

name_found : (name limit : Text) → under (texts_of boxes (words_for name limit)) (codes "in") ≡ name
unfolding clap_on_literals boxes with_option with_place
name_found name limit = refl

limit_found : (name limit : Text) → said_of (texts_of boxes (words_for name limit)) option.LimitBytes ≡ limit
unfolding clap_on_literals boxes with_option with_place
limit_found name limit = refl

words_good : (b : Boxes) → MayBeLimit b.limit → is_boxes ([] ∷ words_for b.name (decimal b.limit)) ≡ true
unfolding is_boxes
words_good b may =
    let none : eqb (length (fault_of boxes (words_for b.name (decimal b.limit)))) 0 ≡ true = no_fault (fault_of boxes (words_for b.name (decimal b.limit))) (words_taken b.name (decimal b.limit)) in
    rw (none, limit_found b.name (decimal b.limit), limit_back b.limit may) refl

words_made : (b : Boxes) → MayBeLimit b.limit → boxes_of ([] ∷ words_for b.name (decimal b.limit)) ≡ b
unfolding boxes_of boxes_by
words_made b may = rw (name_found b.name (decimal b.limit), limit_found b.name (decimal b.limit), limit_back b.limit may) refl

pub has_boxes_words : (b : Boxes) → MayBeLimit b.limit → AsksBoxes b
has_boxes_words b may = record { words = [] ∷ words_for b.name (decimal b.limit); good = words_good b may; made = words_made b may }
