-- The command `transcode` as clap is told of it.
use Rattle.std.specs.Prelude.{Bool, true, false, Some, List, [], ◌∷◌, codes}
use Rattle.clap.specs.Words.{App, Rule, Text, new_app, new_rule, with_rule}
use Rattle.clap.specs.declared.builder.ArgAction.TheVariants.{Set, SetTrue}
use Rattle.jx_options.specs.declared.names.OptionName.{OptionName}
use Rattle.jx_options.specs.Names.{transcode_names, default_of, is_flag, name_of}

-- a word that has to be there
abbrev pub place_rule : Text → Rule
place_rule name = record (new_rule name) { required = true; action = Some Set }

-- an option with one value, and what stands for it where it isn't among the words
abbrev pub option_rule : Text → Text → Rule
option_rule name default = record (new_rule name) { long = Some name; action = Some Set; defaults = default ∷ [] }

-- an option that stands alone
abbrev pub flag_rule : Text → Rule
flag_rule name = record (new_rule name) { long = Some name; action = Some SetTrue }

unfoldable pub with_place : Text → App → App
with_place name app = with_rule app (place_rule name)

unfoldable pub with_option : Text → Text → App → App
with_option name default app = with_rule app (option_rule name default)

unfoldable pub with_flag : Text → App → App
with_flag name app = with_rule app (flag_rule name)

abbrev pub with_places : App → App
with_places app = with_place (codes "out") (with_place (codes "in") app)

-- an option, by whether it stands alone
abbrev pub with_named : Bool → Text → Text → App → App
with_named true name default app = with_flag name app
with_named false name default app = with_option name default app

-- with the options of a list
abbrev pub with_options : List OptionName → App → App
with_options [] app = app
with_options (name ∷ names) app = with_options names (with_named (is_flag name) (name_of name) (default_of name) app)

unfoldable pub transcode : App
transcode = with_options transcode_names (with_places (new_app (codes "transcode")))
