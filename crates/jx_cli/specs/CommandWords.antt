-- The words of a command, by the way in which it takes them.
use Rattle.std.specs.Prelude.{Bool, true, false, List, [], ◌∷◌}
use Rattle.clap.specs.Words.{App, Rule, Text}
use Rattle.jx_cli.specs.Command.{flag_rule, option_rule, with_place}

-- an option, by whether it stands alone
abbrev pub rule_by : Bool → Text → Text → Rule
rule_by true name default = flag_rule name
rule_by false name default = option_rule name default

-- with the words of a list, each of which has to be there
abbrev pub with_words : List Text → App → App
with_words [] app = app
with_words (name ∷ names) app = with_words names (with_place name app)
