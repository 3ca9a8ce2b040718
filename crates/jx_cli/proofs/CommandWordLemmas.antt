-- A command with the words of a list.
use Rattle.std.proofs.Common.{◌≡◌, ◌∙◌, ap, Bool, true, false, List, ◌∷◌, map, refl, sym, Bor}
use Rattle.clap.specs.Words.{App, Rule, Text, with_rule}
use Rattle.jx_cli.specs.Command.{place_rule, with_flag, with_named, with_option, with_options, with_place}
use Rattle.jx_cli.specs.CommandWords.{rule_by, with_words}
use Rattle.jx_options.specs.declared.names.OptionName.{OptionName}
use Rattle.jx_options.specs.Names.{default_of, is_flag, name_of}

place_added : (name : Text) (app : App) → with_rule app (place_rule name) ≡ with_place name app
unfolding with_place
place_added name app = refl

abbrev pub told : List (Bor Text) → List Text
told = map (λ name. name.now)

pub words_added : (names rest : List (Bor Text)) (name : Bor Text) (rule : Rule) (app more : App) → names ≡ name ∷ rest → more ≡ with_rule app rule → rule ≡ place_rule name.now → with_words (told rest) more ≡ with_words (told names) app
words_added names rest name rule app more is added same =
    let one : more ≡ with_place name.now app = added ∙ ap (with_rule app) same ∙ place_added name.now app in
    ap (with_words (told rest)) one ∙ sym (ap (λ all. with_words (told all) app) is)

option_added : (alone : Bool) (name default : Text) (app : App) → with_rule app (rule_by alone name default) ≡ with_named alone name default app
unfolding with_flag with_option
option_added true name default app = refl
option_added false name default app = refl

pub options_added : (options rest : List OptionName) (option : OptionName) (alone : Bool) (name default : Text) (rule : Rule) (app more : App) → options ≡ option ∷ rest → alone ≡ is_flag option → name ≡ name_of option → default ≡ default_of option → more ≡ with_rule app rule → rule ≡ rule_by alone name default → with_options rest more ≡ with_options options app
options_added options rest option alone name default rule app more is by called stands added same =
    let one : rule ≡ rule_by (is_flag option) (name_of option) (default_of option) =
    same ∙ ap (λ a. rule_by a name default) by ∙ ap (λ n. rule_by (is_flag option) n default) called ∙ ap (rule_by (is_flag option) (name_of option)) stands in
    let next : more ≡ with_named (is_flag option) (name_of option) (default_of option) app =
    added ∙ ap (with_rule app) one ∙ option_added (is_flag option) (name_of option) (default_of option) app in
    ap (with_options rest) next ∙ sym (ap (λ all. with_options all app) is)
