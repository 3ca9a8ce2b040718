-- Which words are good, by what clap finds in those from the command's name on.
use Rattle.std.proofs.Common.{◌≡◌, ◌∙◌, ◌&&◌, ap, true, false, Bool, List, [], drop, length, eqb, refl, subst, sym}
use Rattle.std.proofs.lemmas.Bool.{and_left}
use Rattle.clap.specs.Words.{Text, fault_of}
use Rattle.jx_cli.specs.Command.{transcode}
use Rattle.jx_cli.specs.Words.{Given, Request, are_values, given_in, is_good, names_command, request_by, request_of}
use Rattle.jx_cli.proofs.CommandLemmas.{asked_by, unasked_by}

all_three : {X : Type 0} (named : Bool) (faults : List X) (said b : Bool) → named ≡ true → faults ≡ [] → said ≡ b → (named && (eqb (length faults) 0 && said)) ≡ b
all_three named faults said b is none same = rw is (asked_by faults said b none same)

no_second : {X : Type 0} (named : Bool) (faults : List X) (said : Bool) → (faults ≡ [] → ⊥) → (named && (eqb (length faults) 0 && said)) ≡ false
no_second false faults said some = refl
no_second true faults said some = unasked_by faults said some

pub good_by : (words rest : List Text) (g : Given) (b : Bool) → names_command words ≡ true → rest ≡ drop 1 words → fault_of transcode rest ≡ [] → g ≡ given_in rest → are_values g ≡ b → is_good words ≡ b
unfolding is_good
good_by words rest g b named is none same values =
    all_three (names_command words) (fault_of transcode (drop 1 words)) (are_values (given_in (drop 1 words))) b named (subst (λ later. fault_of transcode later ≡ []) is none) (sym (ap are_values (same ∙ ap given_in is)) ∙ values)

pub bad_by : (words rest : List Text) → rest ≡ drop 1 words → (fault_of transcode rest ≡ [] → ⊥) → is_good words ≡ false
unfolding is_good
bad_by words rest is some =
    no_second (names_command words) (fault_of transcode (drop 1 words)) (are_values (given_in (drop 1 words))) (λ none. some (subst (λ later. fault_of transcode later ≡ []) (sym is) none))

pub unnamed : (words : List Text) → names_command words ≡ false → is_good words ≡ false
unfolding is_good
unnamed words is = and_left (names_command words) _ is

pub requested : (words rest : List Text) (g : Given) (r : Request) → rest ≡ drop 1 words → g ≡ given_in rest → r ≡ request_by g → r ≡ request_of words
unfolding request_of
requested words rest g r is same by = by ∙ ap request_by (same ∙ ap given_in is)
