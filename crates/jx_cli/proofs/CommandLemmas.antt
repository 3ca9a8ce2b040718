-- The commands and what clap finds for them.
use Rattle.std.proofs.Common.{◌≡◌, ◌∙◌, ◌&&◌, ap, arith, true, false, Bool, List, [], ◌∷◌, length, eqb, refl, inl, inr, subst, sym, Result, Ok, Err, Option}
use Rattle.std.proofs.lemmas.Bool.{and_parts, ne_eqb}
use Rattle.std.proofs.Math.Path.{fun_ext}
use Rattle.clap.specs.declared.error.Error.{Error}
use Rattle.clap.specs.declared.error.kind.ErrorKind.TheVariants.{OutOfMemory}
use Rattle.clap.specs.Words.{App, HasKind, HasMatchesOf, IsAmong, Kinds, Text, fault_of, first_of, first_value, found_of, is_simple, is_simple_and_free, kind_of}
use Rattle.clap.specs.declared.parser.matches.ArgMatches.{ArgMatches}
use Rattle.clap.proofs.WalkLemmas.{first_value-rows}
use Rattle.clap.proofs.OnLiterals.{clap_on_literals}
use Rattle.jx_cli.specs.Command.{transcode, with_flag, with_option, with_place}
use Rattle.jx_cli.specs.MakeFound.{are_said, is_asked, make_by, texts_of}
use Rattle.jx_cli.specs.MakeWords.{Make, make}

pub transcode_free : is_simple_and_free transcode ≡ true
unfolding clap_on_literals transcode with_flag with_option with_place
transcode_free = refl

pub make_free : is_simple_and_free make ≡ true
unfolding clap_on_literals make with_place
make_free = refl

-- what a parse of a command found, under each name
pub found_texts : (a : App) (words : List Text) (m : ArgMatches) → is_simple a ≡ true → HasMatchesOf a words m → first_value (found_of m) ≡ texts_of a words
found_texts a words m simple matches =
    fun_ext (λ name. first_value-rows (found_of m) name ∙ ap (first_of name) (matches simple).0)

-- an error that isn't want of memory has a kind
pub has_a_kind : (kinds : Kinds) (e : Error) → HasKind kinds e → (kind_of e ≡ OutOfMemory → ⊥) → kinds ≡ [] → ⊥
has_a_kind kinds e (inl memory) other none = other memory
has_a_kind kinds e (inr among) other none = subst (IsAmong (kind_of e)) none among

pub simple_of : (a : App) → is_simple_and_free a ≡ true → is_simple a ≡ true
simple_of a free = (and_parts (is_simple a) _ free).0

-- what clap says of words for a command, by what the command is
pub none_moved : (a b : App) (words : List Text) → a ≡ b → fault_of a words ≡ [] → fault_of b words ≡ []
none_moved a b words is none = subst (λ app. fault_of app words ≡ []) is none

pub some_moved : (a b : App) (words : List Text) → a ≡ b → (fault_of a words ≡ [] → ⊥) → fault_of b words ≡ [] → ⊥
some_moved a b words is some none = some (subst (λ app. fault_of app words ≡ []) (sym is) none)

pub texts_moved : (a b : App) (words : List Text) → a ≡ b → texts_of a words ≡ texts_of b words
texts_moved a b words is = ap (λ app. texts_of app words) is

-- the same error in results of two types
abbrev fault_in : {T E : Type 0} → E → Result T E → E
fault_in e (Ok x) = e
fault_in e (Err f) = f

pub same_fault : {T U E : Type 0} (e f : E) → ◌≡◌ {A = Result U E} (Err e) (Err f) → ◌≡◌ {A = Result T E} (Err e) (Err f)
same_fault {T} {U} {E} e f same = ap (λ (q : Result U E). Err (fault_in e q)) same

-- words are asked where clap finds nothing wrong and its texts say numbers
pub asked_by : {X : Type 0} (faults : List X) (said b : Bool) → faults ≡ [] → said ≡ b → (eqb (length faults) 0 && said) ≡ b
asked_by faults said b none is = rw none is

pub unasked_by : {X : Type 0} (faults : List X) (said : Bool) → (faults ≡ [] → ⊥) → (eqb (length faults) 0 && said) ≡ false
unasked_by [] said some = absurd (some refl)
unasked_by (fault ∷ faults) said some =
    let more : eqb (length (fault ∷ faults)) 0 ≡ false = ne_eqb (length (fault ∷ faults)) 0 (λ none. omega (arith, none)) in
    rw more refl

pub asked : (a : App) (words : List Text) (found : Text → Option Text) (b : Bool) → a ≡ make → fault_of a words ≡ [] → found ≡ texts_of a words → are_said found ≡ b → is_asked words ≡ b
asked a words found b is none same said =
    asked_by (fault_of make words) (are_said (texts_of make words)) b (none_moved a make words is none) (sym (ap are_said (same ∙ texts_moved a make words is)) ∙ said)

pub unasked : (a : App) (words : List Text) → a ≡ make → (fault_of a words ≡ [] → ⊥) → is_asked words ≡ false
unasked a words is some = unasked_by (fault_of make words) (are_said (texts_of make words)) (some_moved a make words is some)

pub made_by : (a : App) (words : List Text) (found : Text → Option Text) (m : Make) → a ≡ make → found ≡ texts_of a words → m ≡ make_by found → m ≡ make_by (texts_of make words)
made_by a words found m is same by = by ∙ ap make_by (same ∙ texts_moved a make words is)
